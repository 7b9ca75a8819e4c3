use mathlib.Core.Path.{◌≡◌}
use native.Mathlib.Nat.{one-mul}
use native.Mathlib.Omega.{arith}
use Rattle.figures.proofs.Progress.{begun_none, begun_next, one_next, begun_all}
use Rattle.tens.proofs.Powers.{power_some}
use borrow.Author.Rules.{rules}
use Rattle.figures.proofs.put_each.Goals as goal

pub nonzero_div-n : goal.nonzero_div-n
nonzero_div-n c = rw c.power.ensures (power_some _)

pub loop-i-init : goal.loop-i-init
loop-i-init c = begun_none _ _ _

pub loop-i-preserved : goal.loop-i-preserved
loop-i-preserved c =
    begun_next _ _ _ (search rules) c.loop-i.invariant (one_next _ _ (rw c.power.ensures at c.digit.ensures) c.put-a.ensures)

pub returns : goal.returns
returns c =
    let e : c.loop-i.i ≡ 0 = omega arith in
    rw (one-mul c.args.k) at (begun_all _ _ _ (rw e at c.loop-i.invariant))
