use mathlib.Core.Path.{◌≡◌}
use native.Mathlib.Omega.{arith}
use Rattle.figures.proofs.Progress.{begun_none, begun_next, begun_all}
use Rattle.tens.proofs.Powers.{power_some}
use borrow.Author.Rules.{rules}
use Rattle.figures.proofs.put_groups.Goals as goal

pub nonzero_div-n : goal.nonzero_div-n
nonzero_div-n c = rw c.power.ensures (power_some _)

pub loop-i-init : goal.loop-i-init
loop-i-init c = begun_none _ _ _

pub loop-i-preserved : goal.loop-i-preserved
loop-i-preserved c = begun_next _ _ _ (search rules) c.loop-i.invariant (rw c.power.ensures at c.put_digits-a.ensures)

pub returns : goal.returns
returns c =
    let e : c.loop-i.i ≡ 0 = omega arith in
    begun_all _ _ _ (rw e at c.loop-i.invariant)
