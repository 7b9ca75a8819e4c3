use Rattle.std.proofs.Common.{arith}
use Rattle.area_laws.specs.Fields.{free_length}
use Rattle.taking.proofs.Runs.{filled_start, filled_more, filled_end}
use Rattle.taking.proofs.free_all.Goals as goal

pub loop-b-init : goal.loop-b-init
loop-b-init c = filled_start

pub loop-b-preserved : goal.loop-b-preserved
loop-b-preserved c = filled_more c.loop-b.invariant c.requires (omega arith) free_length c.free_at.ensures

pub returns : goal.returns
returns c = filled_end c.loop-b.invariant c.requires c.loop-b-test.false
