-- An area with blocks put anew, one after another: each such block lies there, and every other block is as before. Of the pieces of an entry, each in its
-- block with the next one's number.
use Rattle.std.specs.Prelude.{ℕ, ◌+◌, ◌*◌, ◌≤◌, ◌<◌, ◌≡◌, true, false, length, take, drop}
use Rattle.std.proofs.Common.{arith, sym, ◌∙◌, subst, take-append-drop}
use Rattle.std.proofs.Math.Path.{refl}
use mathlib.Core.List.{List, [], ◌∷◌, ◌++◌, map}
use Rattle.scope.specs.Lists.{member}
use Rattle.scope.specs.Limits.{block_size}
use Rattle.scope.specs.Placements.{distinct}
use Rattle.basics.specs.Each.{Each, each_append, each_front, each_back}
use Rattle.accepted_laws.specs.Within.{Byte}
use Rattle.blocks.specs.Block.{content_room, further_kind, entry_block}
use Rattle.blocks.specs.Area.{block_at, Put, put_at, replaced}
use Rattle.blocks.specs.Answers.{next_in, written}
use Rattle.area_laws.specs.Areas.{put_length, put_same, put_other}
use Rattle.area_laws.specs.Fields.{entry_length}
use Rattle.block_laws.specs.Counting.{distinct_cons, not_member, no_member, member_tail, member_head}

abbrev pub Bytes : List ℕ → Type 0
Bytes l = Each Byte l

-- a whole block, for a place in an area of k blocks
abbrev pub Whole : ℕ → Put → Type 0
Whole k p = (p.block < k) × (length p.bytes ≡ block_size)

-- where they are put
abbrev pub places : List Put → List ℕ
places ps = map (λ p. p.block) ps

module _ (k : ℕ) where
  -- ---- any blocks
  -- the area with one of them put
  put_long : (p : Put) (a : List ℕ) → length a ≡ block_size * k → Whole k p → length (put_at (block_size * p.block) p.bytes a) ≡ block_size * k
  put_long p a long h = put_length a p.bytes k p.block long h.0 h.1 ∙ long

  pub replaced_long : (ps : List Put) (a : List ℕ) → length a ≡ block_size * k → Each (Whole k) ps → length (replaced ps a) ≡ block_size * k
  unfolding replaced
  replaced_long [] a long h = long
  replaced_long (p ∷ ps) a long h = replaced_long ps (put_at (block_size * p.block) p.bytes a) (put_long p a long h.0) h.1

  pub replaced_other :
      (ps : List Put) (a : List ℕ) → length a ≡ block_size * k → Each (Whole k) ps → (c : ℕ) → c < k → member c (places ps) ≡ false
      → block_at (replaced ps a) c ≡ block_at a c
  unfolding replaced
  replaced_other [] a long h c i e = refl
  replaced_other (p ∷ ps) a long h c i e =
      replaced_other ps (put_at (block_size * p.block) p.bytes a) (put_long p a long h.0) h.1 c i (member_tail c p.block (places ps) e)
      ∙ put_other a p.bytes k p.block long h.0.0 h.0.1 c i (λ q. member_head c p.block (places ps) e (sym q))

  -- ---- the pieces of an entry
  written_whole :
      (number kind : ℕ) (cs : List (List ℕ)) (bs : List ℕ) → Each (λ c. length c ≤ content_room) cs → Each (λ b. b < k) bs
      → Each (Whole k) (written number kind cs bs)
  unfolding written
  written_whole number kind [] bs f h = tt
  written_whole number kind (c ∷ cs) [] f h = tt
  written_whole number kind (c ∷ cs) (b ∷ bs) f h =
      ((h.0, entry_length kind number (next_in bs) c f.0), written_whole number further_kind cs bs f.1 h.1)

  written_places : (number kind : ℕ) (cs : List (List ℕ)) (bs : List ℕ) (x : ℕ) → member x bs ≡ false → member x (places (written number kind cs bs)) ≡ false
  unfolding written
  written_places number kind [] bs x e = not_member x [] (λ m. m)
  written_places number kind (c ∷ cs) [] x e = not_member x [] (λ m. m)
  written_places number kind (c ∷ cs) (b ∷ bs) x e =
      no_member x b (places (written number further_kind cs bs)) (member_head x b bs e) (written_places number further_kind cs bs x (member_tail x b bs e))

  pub written_long :
      (number kind : ℕ) (cs : List (List ℕ)) (bs a : List ℕ) → length a ≡ block_size * k → Each (λ c. length c ≤ content_room) cs → Each (λ b. b < k) bs
      → length (replaced (written number kind cs bs) a) ≡ block_size * k
  written_long number kind cs bs a long f h = replaced_long (written number kind cs bs) a long (written_whole number kind cs bs f h)

  pub written_other :
      (number kind : ℕ) (cs : List (List ℕ)) (bs a : List ℕ) → length a ≡ block_size * k → Each (λ c. length c ≤ content_room) cs → Each (λ b. b < k) bs
      → (x : ℕ) → x < k → member x bs ≡ false → block_at (replaced (written number kind cs bs) a) x ≡ block_at a x
  written_other number kind cs bs a long f h x i e =
      replaced_other (written number kind cs bs) a long (written_whole number kind cs bs f h) x i (written_places number kind cs bs x e)

-- block by block, the pieces lie in these blocks
abbrev pub Lies : List ℕ → ℕ → ℕ → List (List ℕ) → List ℕ → Type 0
Lies a number kind [] [] = Unit {0}
Lies a number kind [] (b ∷ bs) = ⊥
Lies a number kind (c ∷ cs) [] = ⊥
Lies a number kind (c ∷ cs) (b ∷ bs) = (block_at a b ≡ entry_block kind number (next_in bs) c) × Lies a number further_kind cs bs

pub written_lies :
    (k number kind : ℕ) (cs : List (List ℕ)) (bs a : List ℕ) → length a ≡ block_size * k → length cs ≡ length bs → Each (λ c. length c ≤ content_room) cs
    → Each (λ b. b < k) bs → distinct bs ≡ true → Lies (replaced (written number kind cs bs) a) number kind cs bs
unfolding written replaced
written_lies k number kind [] [] a long m f h d = tt
written_lies k number kind [] (b ∷ bs) a long m f h d = absurd (omega arith)
written_lies k number kind (c ∷ cs) [] a long m f h d = absurd (omega arith)
written_lies k number kind (c ∷ cs) (b ∷ bs) a long m f h d =
    let x = entry_block kind number (next_in bs) c in
    let e = entry_length kind number (next_in bs) c f.0 in
    let z = distinct_cons b bs d in
    let l : length (put_at (block_size * b) x a) ≡ block_size * k = put_length a x k b long h.0 e ∙ long in (
      written_other k number further_kind cs bs (put_at (block_size * b) x a) l f.1 h.1 b h.0 z.0 ∙ put_same a x k b long h.0 e,
      written_lies k number further_kind cs bs (put_at (block_size * b) x a) l (omega arith) f.1 h.1 z.1,
    )

-- ---- bytes
each_taken : (n : ℕ) (l : List ℕ) → Bytes l → Bytes (take n l)
each_taken n l h = each_front Byte (take n l) (drop n l) (subst Bytes (sym (take-append-drop n l)) h)

each_left : (n : ℕ) (l : List ℕ) → Bytes l → Bytes (drop n l)
each_left n l h = each_back Byte (take n l) (drop n l) (subst Bytes (sym (take-append-drop n l)) h)

pub part_bytes : (at n : ℕ) (l : List ℕ) → Bytes l → Bytes (take n (drop at l))
part_bytes at n l h = each_taken n (drop at l) (each_left at l h)

put_bytes : (at : ℕ) (x a : List ℕ) → Bytes x → Bytes a → Bytes (put_at at x a)
put_bytes at x a h g =
    each_append Byte (take at a) (x ++ drop (at + length x) a) (each_taken at a g) (each_append Byte x (drop (at + length x) a) h (each_left (at + length x) a g))

pub replaced_bytes : (ps : List Put) (a : List ℕ) → Each (λ p. Bytes p.bytes) ps → Bytes a → Bytes (replaced ps a)
unfolding replaced
replaced_bytes [] a h g = g
replaced_bytes (p ∷ ps) a h g = replaced_bytes ps (put_at (block_size * p.block) p.bytes a) h.1 (put_bytes (block_size * p.block) p.bytes a h.0 g)
