-- `block::sum` meets its contract. The loop: i bytes are summed. Assumes nothing.
use Rattle.block.proofs.Sums.{SoFar}
use Rattle.block.proofs.sum.Given as goal

abbrev pub invariant-loop-i : goal.invariant-loop-i
invariant-loop-i l = SoFar l.summed l.total l.i
