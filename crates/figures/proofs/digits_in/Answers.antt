use mathlib.Core.Path.{◌≡◌, sym}
use Prim.Native.Nat.{◌+◌}
use native.Mathlib.Omega.{arith}
use Rattle.figures.specs.Written.{group_size}
use Rattle.figures.proofs.Digits.{digits_in}
use borrow.Author.Rules.{rules}
use Rattle.figures.proofs.digits_in.Goals as goal

pub loop-k-init : goal.loop-k-init
loop-k-init c = (0, search rules, omega arith, λ z. absurd (omega arith))

pub returns-then-n-power : goal.returns-then-n-power
returns-then-n-power c =
    let i = c.loop-k.invariant in
    let j = i.0 in
    let below = rw (c.power.ensures, i.1) at c.if-n-power.true in
    rw i.1 (digits_in j _ i.3 below (omega (arith, i.2)))

pub loop-k-preserved : goal.loop-k-preserved
loop-k-preserved c =
    let i = c.loop-k.invariant in
    (i.0 + 1, rw i.1, omega (arith, i.1), λ z. rw (sym i.1, sym c.power.ensures) c.if-n-power.false)

pub returns : goal.returns
returns c =
    let i = c.loop-k.invariant in
    let all : i.0 + 1 ≡ group_size = omega (arith, i.1, i.2) in
    rw all at (digits_in i.0 _ i.3 (rw all c.requires) (omega (arith, i.2)))
