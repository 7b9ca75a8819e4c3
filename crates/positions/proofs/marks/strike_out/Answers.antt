use Rattle.positions.proofs.Rows.{passed_start, passed_next, struck_end}
use native.Mathlib.Omega.{arith}
use Rattle.positions.proofs.marks.strike_out.Goals as goal

pub loop-k-init : goal.loop-k-init
loop-k-init c = passed_start _ _ _ _ _

pub loop-k-preserved : goal.loop-k-preserved
loop-k-preserved c = passed_next c.loop-k.invariant (omega arith) c.strike.ensures

pub returns : goal.returns
returns c = struck_end _ c.loop-k.invariant (omega arith) c.brackets-b.ensures.0
