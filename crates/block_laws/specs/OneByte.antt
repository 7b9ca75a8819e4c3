-- "After one byte changes ..", of one block: the change makes another one of the sum of the block's first bytes or of the number that its last four stand
-- for, and never of both. Here: if the sum still is what the last four stand for, the byte is what it was, in front of them or among them. OneByteLaws of
-- proofs/ has the rest.
use Rattle.std.specs.Prelude.{ℕ, ◌+◌, ◌-◌, ◌≤◌, ◌<◌, ◌≡◌, List, get_or, take, drop, set}
use Rattle.std.proofs.Common.{sym, ap, ◌∙◌, arith, length-take, length-drop, drop-set-lt, get_or-take, get_or-drop}
use Rattle.std.proofs.Math.ListN.{length}
use Rattle.std.proofs.lemmas.List.{take-set-le, drop-set-add}
use Rattle.std.proofs.Math.Seq.{take-set-lt}
use Rattle.scope.specs.Limits.{block_size}
use Rattle.blocks.specs.LowFirst.{little}
use Rattle.blocks.specs.Block.{sum_at, weight}
use Rattle.area_laws.specs.LowFirst.{little_one}
use Rattle.area_laws.specs.Sums.{weight_one}

-- ---- one block
-- the last bytes stand for the sum of the first ones
abbrev pub Summed : List ℕ → Type 0
Summed x = little (drop sum_at x) ≡ weight 0 (take sum_at x)

module _ (x : List ℕ) (r c : ℕ) (long : length x ≡ block_size) (inside : r < block_size) (was : Summed x) (is : Summed (set x r c)) where
  pub in_front_lem : r < sum_at → c ≡ get_or x r 0
  in_front_lem l =
      weight_one (take sum_at x) r c (omega (arith, length-take sum_at x))
      (ap (weight 0) (sym (take-set-lt sum_at x r c l)) ∙ sym is ∙ ap little (drop-set-lt sum_at x r c l) ∙ was) ∙ get_or-take sum_at x r 0 l

  pub behind : sum_at ≤ r → c ≡ get_or x r 0
  behind l =
      let e : r ≡ sum_at + (r - sum_at) = omega arith in
      little_one (drop sum_at x) (r - sum_at) c (omega (arith, length-drop sum_at x))
      (ap little (sym (drop-set-add sum_at x (r - sum_at) c)) ∙ ap (λ k. little (drop sum_at (set x k c))) (sym e) ∙ is
      ∙ ap (weight 0) (take-set-le sum_at x r c l) ∙ sym was)
      ∙ get_or-drop sum_at x (r - sum_at) 0 ∙ ap (λ k. get_or x k 0) (sym e)
