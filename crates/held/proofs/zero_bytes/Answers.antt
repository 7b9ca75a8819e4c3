use mathlib.Core.Path.{◌≡◌, refl, sym, ap, ◌∙◌, subst}
use mathlib.Core.Bool.{◌&&◌}
use Prim.Native.Nat.{ℕ, ◌+◌, max}
use native.Mathlib.Omega.{arith}
use borrow.Author.Tests.{eqb-true, eqb-false, eq-eqb, ne_eqb}
use lib.Dec.{eqb}
use lib.ListN.{get_or, replicate, length-replicate, get_or-replicate}
use Rattle.basics.specs.Choice.{by_test}
use Rattle.held.proofs.Joins.{tells_equal}
use Rattle.held.proofs.Places.{Matched, matched_start, matched_more, matched_end}
use Rattle.held.proofs.zero_bytes.Goals as goal

-- the larger of two is zero where both are
larger_zero : (a b : ℕ) → (eqb a 0 && eqb b 0) ≡ eqb (max a b) 0
larger_zero a b =
    by_test (eqb a 0)
    (λ p. by_test (eqb b 0) (λ q. rw (p, q, eq-eqb (max a b) 0 (omega (arith, eqb-true a 0 p, eqb-true b 0 q))) refl)
    (λ q. rw (p, q, ne_eqb (max a b) 0 (λ e. eqb-false b 0 q (omega (arith, e)))) refl))
    (λ p. rw (p, ne_eqb (max a b) 0 (λ e. eqb-false a 0 p (omega (arith, e)))) refl)

pub loop-i-init : goal.loop-i-init
loop-i-init c = matched_start _ _ _ _ (length-replicate c.args.n 0) c.requires

pub loop-i-preserved : goal.loop-i-preserved
loop-i-preserved c =
    let s = c.args in
    let i = c.loop-i.i in
    let top = c.loop-i.top in
    let b = get_or s.bytes.now (s.at + i) 0 in
    subst (λ so. Matched s.bytes.now (replicate s.n 0) s.at s.n (i + 1) so) (larger_zero top b ∙ ap (λ x. eqb x 0) (sym c.max-top.ensures))
    (matched_more c.loop-i.invariant (omega arith) 0 0 (get_or-replicate s.n i 0 0 (omega arith)) (tells_equal {x = b} refl refl))

pub returns : goal.returns
returns c = matched_end c.loop-i.invariant (omega arith)
