use Rattle.positions.proofs.Rows.{striking_one, striking_none, striking_end}
use native.Mathlib.Omega.{arith}
use Rattle.positions.proofs.marks.strike_named.Goals as goal
use Rattle.positions.proofs.marks.strike_named.Goals.{then-names, else-names}

pub loop-x-preserved : goal.loop-x-preserved
loop-x-preserved c =
    elim c.if-names.branch [
      | then-names w ↦ rw w.free-is (striking_one c.loop-x.invariant (omega arith) c.names.ensures w.if-names.true)
      | else-names w ↦ rw w.free-is (striking_none c.loop-x.invariant (omega arith) c.names.ensures w.if-names.false)
    ]

pub returns : goal.returns
returns c = striking_end c.loop-x.invariant (omega arith)
