use native.Mathlib.Omega.{arith}
use Rattle.rows.proofs.Ones.{filling_start, filling_one, filling_none, filling_end}
use Rattle.rows.proofs.fill_rows.Goals as goal
use Rattle.rows.proofs.fill_rows.Goals.{then-tab-at-eq1, else-tab-at-eq1}

pub loop-at-init : goal.loop-at-init
loop-at-init c = filling_start _ _

pub loop-at-preserved : goal.loop-at-preserved
loop-at-preserved c =
    elim c.if-tab-at-eq1.branch [
      | then-tab-at-eq1 w ↦
          rw (w.i-is, w.out-is, w.site_of.ensures)
          (filling_one c.loop-at.invariant (omega (arith, c.loop-at.invariant.few, c.requires.1)) w.if-tab-at-eq1.true)
      | else-tab-at-eq1 w ↦ rw (w.i-is, w.out-is) (filling_none c.loop-at.invariant w.if-tab-at-eq1.false)
    ]

pub returns : goal.returns
returns c = filling_end _ _ c.loop-at.invariant (omega arith)
