use Rattle.positions.proofs.Rows.{passed_start, passed_next, references_end}
use native.Mathlib.Omega.{arith}
use Rattle.positions.proofs.marks.mark_references.Goals as goal

pub loop-r-init : goal.loop-r-init
loop-r-init c = passed_start _ _ _ _ _

pub loop-r-preserved : goal.loop-r-preserved
loop-r-preserved c = passed_next c.loop-r.invariant (omega arith) c.mark_reference.ensures

pub returns : goal.returns
returns c = references_end _ _ c.loop-r.invariant (omega arith) c.brackets-b.ensures.0
