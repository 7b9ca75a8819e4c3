-- The sum of a block, as a loop works it out, byte by byte. Each turn adds at most so much, so that the sum fits four bytes.
use mathlib.Core.Path.{◌≡◌, refl, sym, ap, ◌∙◌}
use mathlib.Core.List.{List, [], ◌∷◌}
use Prim.Native.Nat.{ℕ, suc, ◌+◌, ◌-◌, ◌*◌, ◌≤◌, ◌<◌}
use native.Mathlib.Omega.{arith}
use native.Mathlib.Numerals.{add-one}
use native.Mathlib.Nat.{add-zero, zero-add}
use lib.ListN.{length, get_or, take, drop, length-drop}
use lib.Seq.{take-suc, take_all, length-take-le}
use Rattle.scope.specs.Bytes.{byte_limit}
use Rattle.scope.specs.Lists.{part}
use Rattle.scope.specs.Limits.{block_size}
use Rattle.blocks.specs.Block.{sum_at, sum_size, weight}
use Rattle.area_laws.specs.Sums.{weight_append}

-- ---- a byte more
pub weight_more : (l : List ℕ) (i : ℕ) → i < length l → weight 0 (take (suc i) l) ≡ weight 0 (take i l) + suc i * get_or l i 0
unfolding weight
weight_more l i h =
    let e : 0 + length (take i l) ≡ i = zero-add (length (take i l)) ∙ length-take-le i l (omega arith) in
    ap (weight 0) (take-suc l i 0 h) ∙ weight_append 0 (take i l) (get_or l i 0 ∷ [])
    ∙ ap (λ k. weight 0 (take i l) + (suc k * get_or l i 0 + 0)) e ∙ ap (λ x. weight 0 (take i l) + x) (add-zero (suc i * get_or l i 0))

-- ---- the loop: i bytes are summed, and each adds at most so much
pub record SoFar (l : List ℕ) (total i : ℕ) : Type 0 where
  pub is : total ≡ weight 0 (take i l)
  pub small : total ≤ i * (sum_at * (byte_limit - 1))

pub sum_start : (l : List ℕ) → SoFar l 0 0
unfolding weight
sum_start l = record { is = refl; small = omega arith }

pub sum_more : {l : List ℕ} {total i t : ℕ} → SoFar l total i → i < length l → t ≡ suc i * get_or l i 0 → t ≤ sum_at * (byte_limit - 1) → SoFar l (total + t) (i + 1)
sum_more {l} {total} {i} {t} h k e s =
    record {
      is = ap (λ x. total + x) e ∙ ap (λ x. x + suc i * get_or l i 0) h.is ∙ sym (weight_more l i k) ∙ ap (λ x. weight 0 (take x l)) (sym (add-one i));
      small = omega (arith, h.small);
    }

-- ---- the bytes of the sum are all that is left of the block
pub sum_bytes : (x : List ℕ) → length x ≡ block_size → part sum_at sum_size x ≡ drop sum_at x
sum_bytes x h = let e = length-drop sum_at x in take_all sum_size (drop sum_at x) (omega (arith, e))
