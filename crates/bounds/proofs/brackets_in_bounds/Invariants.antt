-- The brackets below k keep to their bounds. Assumes nothing.
use Rattle.bounds.specs.Pieces.{BracketsBounds}
use Rattle.bounds.proofs.brackets_in_bounds.Given as goal

abbrev pub invariant-loop-k : goal.invariant-loop-k
invariant-loop-k l = BracketsBounds l.bytes l.numbers l.k
