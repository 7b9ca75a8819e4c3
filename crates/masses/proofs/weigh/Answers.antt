use native.Mathlib.Omega.{arith}
use Rattle.masses.proofs.TallyLaws.{weighing_start, weighing_next, weighing_total, weighing_lacks}
use Rattle.masses.proofs.weigh.Goals as goal

pub loop-k-preserved : goal.loop-k-preserved
loop-k-preserved c = weighing_next c.loop-k.invariant (omega arith) c.tally_with-t.ensures

pub loop-k-init : goal.loop-k-init
loop-k-init c = weighing_start c.requires c.brackets-n.ensures.0

pub returns-then-t-eq0 : goal.returns-then-t-eq0
returns-then-t-eq0 c = weighing_total c.loop-k.invariant (omega arith) c.if-t-eq0.true

pub returns-else-t-eq0 : goal.returns-else-t-eq0
returns-else-t-eq0 c = weighing_lacks c.loop-k.invariant (omega arith) c.if-t-eq0.false
