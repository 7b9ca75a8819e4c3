-- The parts below j keep to their bounds. Assumes nothing.
use Rattle.std.proofs.Common.{ℕ, ◌<◌}
use Rattle.areas.specs.Bounds.{PartBounds}
use Rattle.bounds.proofs.parts_in_bounds.Given as goal

abbrev pub invariant-loop-j : goal.invariant-loop-j
invariant-loop-j l = (i : ℕ) → i < l.j → PartBounds l.bytes l.numbers l.k i
