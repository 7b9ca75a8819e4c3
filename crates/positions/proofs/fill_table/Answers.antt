use Rattle.positions.specs.Legible.{legible}
use Rattle.positions.proofs.Rows.{free_is}
use Rattle.positions.proofs.Found.{floaters_inside}
use Rattle.positions.proofs.Whole.{filling_next, filling_end}
use native.Mathlib.Omega.{arith}
use Rattle.positions.proofs.fill_table.Goals as goal

pub fill_row-requires : goal.fill_row-requires
fill_row-requires c = (
  legible c.requires.0,
  omega (arith, c.from-k.ensures, floaters_inside c.requires.1 c.loop-g.g (omega arith)),
  (λ ns. free_is _ ns (c.strike_out.ensures ns)),
  omega (arith, c.requires.1.few, c.loop-g.invariant.kept),
)

pub loop-g-preserved : goal.loop-g-preserved
loop-g-preserved c = filling_next c.loop-g.invariant (omega arith) c.from-k.ensures (c.fill_row.ensures _)

pub returns : goal.returns
returns c = filling_end c.loop-g.invariant (omega arith) (legible c.requires.0) c.requires.1
