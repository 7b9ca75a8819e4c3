-- A block written from the front on: what stands before a place, when bytes are put there, grows by these bytes; and what is behind the sum's place is the sum.
use mathlib.Core.Path.{◌≡◌, refl, sym, ap, ◌∙◌, subst}
use mathlib.Core.List.{List, [], ◌∷◌, ◌++◌, append_assoc, append-nil}
use Prim.Native.Nat.{ℕ, suc, ◌+◌, ◌-◌, ◌≤◌, ◌<◌}
use native.Mathlib.Omega.{arith}
use Rattle.std.proofs.lemmas.List.{take-replicate}
use lib.ListN.{length, set, take, drop, replicate, length-append, length-set, length-replicate, drop_of_length-le}
use lib.Seq.{append_snoc, take_at, take-suc-set, length-take-le}
use Rattle.scope.specs.Lists.{padded}
use Rattle.scope.specs.Limits.{block_size}
use Rattle.blocks.specs.LowFirst.{low_first}
use Rattle.blocks.specs.Block.{used_at, used_size, next_at, number_at, number_size, content_at, content_room, sum_at, sum_size, free_kind, no_next, weight, sealed, free_block, entry_block}
use Rattle.blocks.specs.Area.{put_at}
use Rattle.block.specs.Links.{front_of}
use Rattle.area_laws.specs.LowFirst.{low_length}
use Rattle.area_laws.specs.Areas.{put_long}

-- ---- lengths of lists in which a byte was set
pub set_long : {n : ℕ} (l m : List ℕ) (i v : ℕ) → length m ≡ length (set l i v) → length l ≡ n → length m ≡ n
set_long l m i v e h = e ∙ length-set l i v ∙ h

-- ---- bytes put into a list
-- what stands before them, and they
pub put_front : (at : ℕ) (x l : List ℕ) → at + length x ≤ length l → take (at + length x) (put_at at x l) ≡ take at l ++ x
put_front at x l h =
    let front = length-take-le at l (omega arith) in
    let whole = length-append (take at l) x in
    ap (take (at + length x)) (sym (append_assoc (take at l) x (drop (at + length x) l)))
    ∙ take_at (take at l ++ x) (drop (at + length x) l) (at + length x) (omega (arith, front, whole))

-- ---- a block of which so many bytes are written
pub record Begins (size : ℕ) (front l : List ℕ) : Type 0 where
  pub long : length l ≡ size
  pub is : take (length front) l ≡ front

pub begins_none : {size : ℕ} (l : List ℕ) → length l ≡ size → Begins size [] l
begins_none l h = record { long = h; is = refl }

pub begins_put : {size : ℕ} {front l : List ℕ} (at : ℕ) (x : List ℕ) → Begins size front l → at ≡ length front → at + length x ≤ size → Begins size (front ++ x) (put_at at x l)
begins_put {size} {front} {l} at x w e h =
    let whole = length-append front x in
    let room : at + length x ≤ length l = omega (arith, w.long) in
    let end : length (front ++ x) ≡ at + length x = omega (arith, whole) in
    record {
      long = put_long at x l room ∙ w.long;
      is = ap (λ n. take n (put_at at x l)) end ∙ put_front at x l room ∙ ap (λ n. take n l ++ x) e ∙ ap (λ m. m ++ x) w.is;
    }

pub begins_set : {size : ℕ} {front l : List ℕ} (at v : ℕ) → Begins size front l → at ≡ length front → at < size → Begins size (front ++ (v ∷ [])) (set l at v)
begins_set {size} {front} {l} at v w e h =
    let whole = length-append front (v ∷ []) in
    let end : length (front ++ (v ∷ [])) ≡ suc at = omega (arith, whole) in
    record {
      long = length-set l at v ∙ w.long;
      is = ap (λ n. take n (set l at v)) end ∙ take-suc-set l at v (omega (arith, w.long)) ∙ ap (λ n. take n l ++ (v ∷ [])) e ∙ ap (λ m. m ++ (v ∷ [])) w.is;
    }

-- ---- the sum behind what it sums
pub sealed_put : (x : List ℕ) → length x ≡ block_size → put_at sum_at (low_first sum_size (weight 0 (take sum_at x))) x ≡ sealed (take sum_at x)
sealed_put x h =
    let s = low_first sum_size (weight 0 (take sum_at x)) in
    let e : length s ≡ sum_size = low_length sum_size (weight 0 (take sum_at x)) in
    ap (λ r. take sum_at x ++ (s ++ r)) (drop_of_length-le x {i = sum_at + length s} (omega (arith, e))) ∙ ap (λ r. take sum_at x ++ r) (append-nil s)

-- ---- zeros
-- two bytes among zeros
two_among_zeros : (n k a b : ℕ) → take (suc (suc (suc (suc n)))) (set (set (replicate (suc (suc (suc (suc (n + k))))) 0) 0 a) 3 b) ≡ a ∷ 0 ∷ 0 ∷ b ∷ replicate n 0
two_among_zeros n k a b = ap (λ l. a ∷ 0 ∷ 0 ∷ b ∷ l) (take-replicate n (n + k) 0 (omega arith))

-- a content with zeros behind it
pub padded_length : (n : ℕ) (c : List ℕ) → length c ≤ n → length (padded 0 n c) ≡ n
padded_length n c h =
    let whole = length-append c (replicate (n - length c) 0) in
    let rest : length (replicate {A = ℕ} (n - length c) 0) ≡ n - length c = length-replicate (n - length c) 0 in
    omega (arith, whole, rest)

-- ---- what is written
-- the front: kind, used length, next block, number
pub front_written : (kind used next number : ℕ) (l m n : List ℕ) → length l ≡ block_size → m ≡ put_at used_at (low_first used_size used) (set l 0 kind)
    → n ≡ put_at number_at (low_first number_size number) (set m next_at next) → take content_at n ≡ front_of kind used next number
front_written kind used next number l m n h e f =
    let u = low_length used_size used in
    let w = low_length number_size number in
    let upto = kind ∷ low_first used_size used in
    let first : Begins block_size (kind ∷ []) (set l 0 kind) = begins_set 0 kind (begins_none l h) refl (omega arith) in
    let second : Begins block_size upto m = subst (Begins block_size upto) (sym e) (begins_put used_at (low_first used_size used) first refl (omega (arith, u))) in
    let third : Begins block_size (upto ++ (next ∷ [])) (set m next_at next) = begins_set next_at next second (omega (arith, u)) (omega arith) in
    let more = length-append upto (next ∷ []) in
    let all = length-append (upto ++ (next ∷ [])) (low_first number_size number) in
    let fourth : Begins block_size (upto ++ (next ∷ []) ++ low_first number_size number) n =
    subst (Begins block_size (upto ++ (next ∷ []) ++ low_first number_size number)) (sym f)
    (begins_put number_at (low_first number_size number) third (omega (arith, u, more)) (omega (arith, w))) in
    let end : content_at ≡ length (upto ++ (next ∷ []) ++ low_first number_size number) = omega (arith, u, w, more, all) in
    ap (λ k. take k n) end ∙ fourth.is ∙ append_snoc upto next (low_first number_size number)

-- a free block
pub free_written : (n : ℕ) {m : List ℕ} → m ≡ replicate n 0 → n ≡ block_size → sealed (take sum_at (set (set m 0 free_kind) next_at no_next)) ≡ free_block
unfolding free_block
free_written n e h =
    ap (λ k. sealed (take sum_at (set (set k 0 free_kind) next_at no_next))) (e ∙ ap (λ k. replicate k 0) h)
    ∙ ap sealed (two_among_zeros (sum_at - number_at) sum_size free_kind no_next)

-- a block of an entry
pub entry_written : (kind number next : ℕ) (c l m : List ℕ) → take content_at l ≡ front_of kind (length c) next number → length l ≡ block_size → length c ≤ content_room
    → m ≡ put_at content_at (padded 0 content_room c) l → sealed (take sum_at m) ≡ entry_block kind number next c
unfolding entry_block
entry_written kind number next c l m front long fits e =
    let p = padded_length content_room c fits in
    let whole : take sum_at m ≡ take content_at l ++ padded 0 content_room c =
    ap (take sum_at) e ∙ ap (λ n. take (content_at + n) (put_at content_at (padded 0 content_room c) l)) (sym p) ∙ put_front content_at (padded 0 content_room c) l (omega (arith, p)) in
    ap sealed
    (whole ∙ ap (λ f. f ++ padded 0 content_room c) front
    ∙ append_assoc (kind ∷ low_first used_size (length c)) (next ∷ low_first number_size number) (padded 0 content_room c))
