-- Numbers in bytes at a place of a list: what stands there as the number of its bytes; the bytes of a number as std gives them; and bytes written over a part.
use Rattle.std.proofs.Common.{◌≡◌, refl, ap, sym, ◌∙◌, List, ◌++◌, ℕ, suc, ◌+◌, ◌*◌, ◌<◌, length, get_or, take, drop, drop-cons, add-one}
use Rattle.std.proofs.Math.Nat.{div-div-eq-div-mul}
use Rattle.std.proofs.Math.Seq.{drop-drop}
use Rattle.std.specs.Int.{to_le_bytes, w16, w32}
use Rattle.scope.specs.Bytes.{byte_limit}
use Rattle.scope.specs.Lists.{part}
use Rattle.blocks.specs.LowFirst.{little, low_first}
use Rattle.blocks.specs.Area.{put_at}
use Rattle.area_laws.specs.LowFirst.{low_length}

-- ---- read
-- nothing is 0
pub little_none : (l : List ℕ) (i : ℕ) → little (part i 0 l) ≡ 0
unfolding little
little_none l i = refl

-- the byte at a place, before those behind it
pub little_part : (l : List ℕ) (w i k : ℕ) → i < length l → k ≡ i + 1 → little (part i (suc w) l) ≡ get_or l i 0 + byte_limit * little (part k w l)
unfolding little
little_part l w i k h e = rw (e, add-one i, drop-cons l i 0)

-- ---- written
pub low_two : (n : ℕ) → to_le_bytes w16 n ≡ low_first 2 n
unfolding low_first
low_two n = refl

pub low_four : (n : ℕ) → to_le_bytes w32 n ≡ low_first 4 n
unfolding low_first
low_four n = rw (div-div-eq-div-mul n byte_limit byte_limit, div-div-eq-div-mul n (byte_limit * byte_limit) byte_limit)

-- a number's bytes over a part of as many
pub low_put : (w n at k : ℕ) {x : List ℕ} (l : List ℕ) → x ≡ low_first w n → k ≡ w → take at l ++ (x ++ drop k (drop at l)) ≡ put_at at (low_first w n) l
low_put w n at k l e f =
    ap (λ x. take at l ++ (x ++ drop k (drop at l))) e
    ∙ ap (λ r. take at l ++ (low_first w n ++ r)) (drop-drop k at l ∙ ap (λ i. drop (at + i) l) (f ∙ sym (low_length w n)))
