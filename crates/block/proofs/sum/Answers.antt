use Rattle.std.proofs.Common.{arith}
use Rattle.block.proofs.Sums.{sum_start, sum_more}
use Rattle.block.proofs.sum.Goals as goal

pub loop-i-init : goal.loop-i-init
loop-i-init c = sum_start _

pub loop-i-preserved : goal.loop-i-preserved
loop-i-preserved c = sum_more c.loop-i.invariant (omega arith) c.term-total.ensures.0 c.term-total.ensures.1
