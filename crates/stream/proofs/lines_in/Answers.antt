use Rattle.stream.proofs.Telling.{counted_start, counted_more}
use Rattle.stream.proofs.lines_in.Goals as goal

pub loop-b-init : goal.loop-b-init
loop-b-init c = counted_start _

pub loop-b-preserved : goal.loop-b-preserved
loop-b-preserved c = counted_more c.loop-b.invariant c.loop-b-test.true c.one_if-ends.ensures
