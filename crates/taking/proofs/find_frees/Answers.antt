use Rattle.std.proofs.Common.{refl}
use Rattle.taking.proofs.Lowest.{taken_start, taken_more, taken_short, taken_enough}
use Rattle.taking.proofs.find_frees.Goals as goal

pub loop-k-init : goal.loop-k-init
loop-k-init c = taken_start _ c.args.area.now.whole refl

pub returns-in_err-b : goal.returns-in_err-b
returns-in_err-b c = rw c.from_residual.ensures (taken_short c.loop-k.invariant c.requires c.loop-k-test.true (rw c.in_err-b.was at c.free_from.ensures))

pub loop-k-preserved : goal.loop-k-preserved
loop-k-preserved c = taken_more c.loop-k.invariant c.requires c.args.area.now.whole c.loop-k-test.true (rw c.in_ok-b.was at c.free_from.ensures)

pub returns : goal.returns
returns c = taken_enough c.loop-k.invariant c.requires c.loop-k-test.false
