use native.Mathlib.Omega.{arith}
use Rattle.brackets.proofs.Places.{reaching_start, reaching_one, reaching_none, put_none, put_within, put_one, put_all}
use Rattle.brackets.proofs.put_reached.Goals as goal
use Rattle.brackets.proofs.put_reached.Goals.{then-names, else-names}

pub loop-x-preserved : goal.loop-x-preserved
loop-x-preserved c =
    let low = put_within c.loop-x.invariant (omega arith) in
    elim c.if-names.branch [
      | then-names w ↦ rw (w.out-is, w.n-is)
          (reaching_one c.loop-x.invariant (omega arith) c.names.ensures w.if-names.true (put_one (omega (arith, low.0, low.1, c.requires.2)) _))
      | else-names w ↦ rw (w.out-is, w.n-is) (reaching_none c.loop-x.invariant (omega arith) c.names.ensures w.if-names.false)
    ]

pub loop-x-init : goal.loop-x-init
loop-x-init c = reaching_start c.requires.0 c.requires.1 c.residues-all.ensures.0 (put_none _)

pub returns : goal.returns
returns c = put_all c.loop-x.invariant (omega arith)
