use Rattle.rules.proofs.Whole.{finds}
use Rattle.rules.proofs.Noting.{all_legible}
use Rattle.rules.proofs.Gathered.{gather_starts, gather_more, gather_ends, copies_end}
use mathlib.Core.Path.{ap}
use Prim.Native.Nat.{◌+◌}
use native.Mathlib.Omega.{arith}
use Rattle.rules.proofs.rules_due.Goals as goal

pub loop-k-init : goal.loop-k-init
loop-k-init c = gather_starts _ _ _ _ _

pub copies_of-requires : goal.copies_of-requires
copies_of-requires c =
    let p = c.requires.1 in
    omega (arith, p.few, c.loop-k-test.true)

pub overflow_add-after : goal.overflow_add-after
overflow_add-after c =
    let p = c.requires.1 in
    omega (arith, p.few, c.loop-k-test.true, c.loop-k.invariant.low, c.copies_of.ensures.1)

pub bracket_due-first-requires : goal.bracket_due-first-requires
bracket_due-first-requires c =
    let p = c.requires.1 in
    (all_legible p, c.loop-k-test.true, ap (λ t. c.loop-k.floaters + t) c.copies_of.ensures.0)

pub loop-k-preserved : goal.loop-k-preserved
loop-k-preserved c =
    gather_more _ _ _ _ _ _ _ _ c.loop-k.invariant c.loop-k-test.true c.copies_of.ensures.0 c.copies_of.ensures.1 c.bracket_due-first.ensures

pub returns : goal.returns
returns c =
    λ ks a.
    let i = c.loop-k.invariant in
    finds a _ (gather_ends _ _ _ _ _ _ _ _ i c.loop-k-test.false) (copies_end _ _ _ _ _ _ _ _ i c.loop-k-test.false)
