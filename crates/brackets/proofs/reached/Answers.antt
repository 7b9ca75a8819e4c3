use mathlib.Core.Path.{refl}
use native.Mathlib.Omega.{arith}
use Rattle.brackets.proofs.Places.{reaching_start, reaching_one, reaching_none, counted_one, counted_all}
use Rattle.brackets.proofs.reached.Goals as goal
use Rattle.brackets.proofs.reached.Goals.{then-names, else-names}

pub loop-x-preserved : goal.loop-x-preserved
loop-x-preserved c =
    let said = c.names.ensures in
    elim c.if-names.branch [
      | then-names w ↦ rw w.n-is (reaching_one c.loop-x.invariant (omega arith) said w.if-names.true (counted_one _))
      | else-names w ↦ rw w.n-is (reaching_none c.loop-x.invariant (omega arith) said w.if-names.false)
    ]

pub loop-x-init : goal.loop-x-init
loop-x-init c = reaching_start c.requires.0 c.requires.1 c.residues-end.ensures.0 refl

pub returns : goal.returns
returns c = counted_all c.loop-x.invariant (omega arith)
