-- The invariant: the number has k digits at least. Assumes nothing.
use mathlib.Core.Path.{◌≡◌}
use Prim.Native.Nat.{ℕ, ◌+◌, ◌-◌, ◌^◌, ◌≤◌, ◌<◌}
use Rattle.figures.specs.Written.{group_size}
use Rattle.figures.proofs.digits_in.Given as goal

abbrev pub invariant-loop-k : goal.invariant-loop-k
invariant-loop-k l = (j : ℕ) × (l.k ≡ j + 1) × (j < group_size) × (0 < j → 10 ^ j ≤ l.n)

abbrev pub decreases-loop-k : goal.decreases-loop-k
decreases-loop-k l = group_size - l.k
