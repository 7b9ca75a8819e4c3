-- An area after adding: under the entry's number the entry is found, in the blocks that were taken; under any other number what was found before; all blocks are
-- sound; and there are so many free blocks less.
use Rattle.std.specs.Prelude.{ℕ, ◌+◌, ◌*◌, ◌≤◌, ◌<◌, ◌^◌, ◌≡◌, refl, ◌⊎◌, Bool, true, false, ◌&&◌, ◌||◌, List, [], ◌∷◌, eqb, length, take}
use Rattle.std.proofs.Common.{arith, sym, ap, ◌∙◌, subst, inl, inr, ⊎_elim, length-take-le}
use Rattle.scope.specs.Bytes.{byte_limit}
use Rattle.scope.specs.Lists.{tabled, member}
use Rattle.scope.specs.Limits.{block_size, block_limit}
use Rattle.scope.specs.Placements.{distinct}
use Rattle.basics.specs.Each.{Each, In, in_each}
use Rattle.basics.specs.Lists.{kept_fewer}
use Rattle.basics.specs.Members.{member_in, in_member}
use Rattle.basics.specs.Tabled.{length_tabled}
use Rattle.basics.specs.Tests.{both, falsely, test}
use Rattle.blocks.specs.Block.{content_room, free_kind, further_kind, is_first, new_kind, block_kind}
use Rattle.blocks.specs.Area.{blocks_in, block_at, sound_at, all_sound, carries, is_free, frees, replaced}
use Rattle.blocks.specs.Chain.{Chain, follow}
use Rattle.blocks.specs.Entry.{absent, present, is_stated, entry_in, look}
use Rattle.blocks.specs.Answers.{blocks_for, pieces, next_in, written}
use Rattle.block_laws.specs.Apart.{bears}
use Rattle.area_laws.specs.Areas.{blocks_many}
use Rattle.area_laws.specs.Fields.{entry_bytes}
use Rattle.block_laws.specs.Looking.{look_found, none_first}
use Rattle.block_laws.specs.Taken.{exactly_frees}
use Rattle.block_laws.specs.Counting.{in_take, take_distinct, kept_distinct, no_member, counted_less, keep_one}
use Rattle.block_laws.specs.Written.{Bytes, written_long, written_other, written_lies, replaced_bytes}
use Rattle.block_laws.specs.Pieces.{joined, filled_fit, joined_pieces, filled_pieces, pieces_many, pieces_bytes, blocks_some}
use Rattle.block_laws.specs.Followed.{next_byte, Holds, its_kind, its_sound, it_carries, carries_no_other, Entered, entered_first, entered_rest, follow_entered, OneOf, one_of_them}
use Rattle.block_laws.specs.Looks.{begins, firsts_below, first_among, frees_below, sound_each, each_sound, absent_sound}
use Rattle.block_laws.specs.Outside.{same_sound, same_free, same_begins, free_kind_of, free_bears, look_outside}

-- ---- an entry that lies in an area is found there, where no other block is a first one with its number
begins_first : (a : List ℕ) (k number next : ℕ) (c : List ℕ) (b : ℕ) → Holds a k number new_kind next c b → begins a number b ≡ true
begins_first a k number next c b w = both (is_first (block_kind (block_at a b))) (carries a number b) (ap is_first (its_kind w)) (it_carries w)

further_begins : (a : List ℕ) (k number b : ℕ) → OneOf a k number further_kind b → begins a number b ≡ false
further_begins a k number b o = ap (λ x. is_first x && carries a number b) (its_kind o.written ∙ ⊎_elim (λ e. e) (λ e. e) o.same)

pub look_entered :
    (a : List ℕ) (k number : ℕ) (cs : List (List ℕ)) (bs : List ℕ) → Entered a k number new_kind cs bs → 1 ≤ length bs → length bs ≤ k
    → is_stated new_kind (joined cs) ≡ true → ((b : ℕ) → b < k → member b bs ≡ false → begins a number b ≡ false)
    → look a number ≡ present bs (entry_in new_kind (joined cs))
look_entered a k number cs [] w l m s h = absurd (omega arith)
look_entered a k number [] (b ∷ bs) w l m s h = absurd w.lie
look_entered a k number (c ∷ cs) (b ∷ bs) w l m s h =
    let x : Chain = record { blocks = b ∷ bs; content = joined (c ∷ cs) } in
    let kind : block_kind (block_at a b) ≡ new_kind = its_kind (entered_first w) in
    let only = keep_one (begins a number) b k w.inside.0 (begins_first a k number (next_in bs) c b (entered_first w)) others in
    let chain = follow_entered (blocks_in a) a k number new_kind c cs b bs w (omega (arith, blocks_many a k w.long)) in
    look_found a number b x (firsts_below a k w.long number ∙ only) (ap (λ z. follow (blocks_in a) a number z b) kind ∙ chain) (ap (λ z. is_stated z (joined (c ∷ cs))) kind ∙ s)
    ∙ ap (λ z. present (b ∷ bs) (entry_in z (joined (c ∷ cs)))) kind
  where
    others : (x : ℕ) → x < k → (x ≡ b → ⊥) → begins a number x ≡ false
    others x i n =
        ⊎_elim (λ e. further_begins a k number x (one_of_them a k number further_kind cs bs (entered_rest w) x e)) (λ e. h x i (no_member x b bs n e)) (test (member x bs))

-- ---- bytes
written_bytes :
    (k number kind : ℕ) (cs : List (List ℕ)) (bs : List ℕ) → k ≤ block_limit → kind < byte_limit → Each (λ c. length c ≤ content_room) cs → Each Bytes cs
    → Each (λ b. b < k) bs → Each (λ p. Bytes p.bytes) (written number kind cs bs)
unfolding written
written_bytes k number kind [] bs few l f g h = tt
written_bytes k number kind (c ∷ cs) [] few l f g h = tt
written_bytes k number kind (c ∷ cs) (b ∷ bs) few l f g h = (
  entry_bytes kind number (next_in bs) c f.0 l (next_byte k bs few h.1) g.0,
  written_bytes k number further_kind cs bs few (omega arith) f.1 g.1 h.1,
)

-- ---- adding a content under a number
-- the blocks that are taken, and the area then
abbrev pub taken_for : List ℕ → List ℕ → List ℕ
taken_for a c = take (blocks_for (length c)) (frees a)

abbrev pub with_entry : List ℕ → ℕ → List ℕ → List ℕ
with_entry a number c = replaced (written number new_kind (pieces c) (taken_for a c)) a

pub record Adds (k : ℕ) (a : List ℕ) (number : ℕ) (c : List ℕ) : Type 0 where
  pub long : length a ≡ block_size * k
  pub few : k ≤ block_limit
  pub numbered : number < 2 ^ 32
  pub nothing : look a number ≡ absent
  pub room : blocks_for (length c) ≤ length (frees a)
  pub bytes : Bytes c
  pub some_bytes : 1 ≤ length c
  pub fine : is_stated new_kind c ≡ true

module _ {k : ℕ} {a : List ℕ} {number : ℕ} {c : List ℕ} (w : Adds k a number c) where
  -- ---- the blocks
  frees_belowside : (b : ℕ) → In b (frees a) → (b < k) × (is_free a b ≡ true)
  frees_belowside b h =
      let z = (exactly_frees a b).0 h in (subst (λ n. b < n) (blocks_many a k w.long) z.0, z.1)

  pub taken_inside : Each (λ b. b < k) (taken_for a c)
  taken_inside = in_each (λ b. b < k) (taken_for a c) (λ b h. (frees_belowside b (in_take (blocks_for (length c)) b (frees a) h)).0)

  pub taken_free : (b : ℕ) → member b (taken_for a c) ≡ true → is_free a b ≡ true
  taken_free b m = (frees_belowside b (in_take (blocks_for (length c)) b (frees a) (member_in b (taken_for a c) m))).1

  pub taken_many : length (taken_for a c) ≡ blocks_for (length c)
  taken_many = length-take-le (blocks_for (length c)) (frees a) w.room

  pub taken_distinct : distinct (taken_for a c) ≡ true
  taken_distinct = take_distinct (blocks_for (length c)) (frees a) (ap distinct (frees_below a k w.long) ∙ kept_distinct (is_free a) 0 k)

  taken_few : length (taken_for a c) ≤ k
  taken_few =
      let m = taken_many in
      let r = w.room in
      let f = ap length (frees_below a k w.long) in
      let g = kept_fewer (is_free a) (tabled (λ x. x) 0 k) in
      let n = length_tabled (λ x. x) 0 k in
      omega arith

  fit : Each (λ x. length x ≤ content_room) (pieces c)
  fit = filled_fit (pieces c) (filled_pieces c)

  -- ---- the area
  pub added_long : length (with_entry a number c) ≡ block_size * k
  added_long = written_long k number new_kind (pieces c) (taken_for a c) a w.long fit taken_inside

  pub added_other : (b : ℕ) → b < k → member b (taken_for a c) ≡ false → block_at (with_entry a number c) b ≡ block_at a b
  added_other b i m = written_other k number new_kind (pieces c) (taken_for a c) a w.long fit taken_inside b i m

  pub added_bytes : Bytes a → Bytes (with_entry a number c)
  added_bytes h =
      replaced_bytes (written number new_kind (pieces c) (taken_for a c)) a
      (written_bytes k number new_kind (pieces c) (taken_for a c) w.few (omega arith) fit (pieces_bytes c w.bytes) taken_inside) h

  entered : Entered (with_entry a number c) k number new_kind (pieces c) (taken_for a c)
  entered =
      record {
        long = added_long;
        few = w.few;
        numbered = w.numbered;
        kinds = omega arith;
        lie = written_lies k number new_kind (pieces c) (taken_for a c) a w.long (pieces_many c ∙ sym taken_many) fit taken_inside taken_distinct;
        filled = filled_pieces c;
        bytes = pieces_bytes c w.bytes;
        inside = taken_inside;
      }

  one : (b : ℕ) → member b (taken_for a c) ≡ true → OneOf (with_entry a number c) k number new_kind b
  one b m = one_of_them (with_entry a number c) k number new_kind (pieces c) (taken_for a c) entered b m

  -- ---- under its number
  pub added_found : look (with_entry a number c) number ≡ present (taken_for a c) (entry_in new_kind c)
  added_found =
      look_entered (with_entry a number c) k number (pieces c) (taken_for a c) entered (omega (arith, taken_many, blocks_some (length c) w.some_bytes)) taken_few
      (ap (is_stated new_kind) (joined_pieces c) ∙ w.fine) others
      ∙ ap (λ x. present (taken_for a c) (entry_in new_kind x)) (joined_pieces c)
    where
      before : (b : ℕ) → b < k → begins a number b ≡ false
      before b i = falsely (begins a number b) (λ e. subst (In b) (none_first a number w.nothing) (first_among a k w.long number b i e))

      others : (b : ℕ) → b < k → member b (taken_for a c) ≡ false → begins (with_entry a number c) number b ≡ false
      others b i m = same_begins k (with_entry a number c) a added_long w.long b (added_other b i m) number ∙ before b i

  -- ---- all blocks
  pub added_sound : all_sound (with_entry a number c) ≡ true
  added_sound = each_sound (with_entry a number c) k added_long (λ b i. at b i (test (member b (taken_for a c))))
    where
      at : (b : ℕ) → b < k → (member b (taken_for a c) ≡ true) ⊎ (member b (taken_for a c) ≡ false) → sound_at (with_entry a number c) b ≡ true
      at b i (inl m) = its_sound (one b m).written
      at b i (inr m) =
          same_sound k (with_entry a number c) a added_long w.long b (added_other b i m) ∙ sound_each a k w.long (absent_sound a number w.nothing) b i

  -- ---- under another number
  pub added_others : (m : ℕ) → (m ≡ number → ⊥) → look (with_entry a number c) m ≡ look a m
  added_others m n =
      look_outside k (with_entry a number c) a added_long w.long added_sound (absent_sound a number w.nothing) (taken_for a c) added_other m
      (λ b h. (bears_not b (one b h), free_bears a b (free_kind_of a b (taken_free b h)) m))
    where
      nor : (t : Bool) → (t && false) ≡ false
      nor true = refl
      nor false = refl

      bears_not : (b : ℕ) → OneOf (with_entry a number c) k number new_kind b → bears (with_entry a number c) m b ≡ false
      bears_not b o = rw (carries_no_other o.written m n) (nor (is_first (block_kind (block_at (with_entry a number c) b)) || eqb (block_kind (block_at (with_entry a number c) b)) further_kind))

  -- ---- free blocks
  pub taken_busy : (b : ℕ) → member b (taken_for a c) ≡ true → is_free (with_entry a number c) b ≡ false
  taken_busy b m = falsely (is_free (with_entry a number c) b) (λ e. never (one b m) (free_kind_of (with_entry a number c) b e))
    where
      never : OneOf (with_entry a number c) k number new_kind b → block_kind (block_at (with_entry a number c) b) ≡ free_kind → ⊥
      never o e = let q = its_kind o.written in ⊎_elim (λ s. omega (arith, s, q)) (λ s. omega (arith, s, q)) o.same

  pub added_frees : length (frees (with_entry a number c)) + blocks_for (length c) ≡ length (frees a)
  added_frees =
      let n = counted_less (is_free a) (is_free (with_entry a number c)) k (taken_for a c) taken_distinct
      (in_each (λ b. (b < k) × (is_free a b ≡ true) × (is_free (with_entry a number c) b ≡ false)) (taken_for a c) each)
      (λ b i m. same_free k (with_entry a number c) a added_long w.long b (added_other b i m)) in
      let old = ap length (frees_below a k w.long) in
      let new = ap length (frees_below (with_entry a number c) k added_long) in
      let many = taken_many in
      omega arith
    where
      each : (b : ℕ) → In b (taken_for a c) → (b < k) × (is_free a b ≡ true) × (is_free (with_entry a number c) b ≡ false)
      each b h =
          let m = in_member b (taken_for a c) h in
          let z = frees_belowside b (in_take (blocks_for (length c)) b (frees a) h) in
          (z.0, z.1, taken_busy b m)
