use Prim.Native.Nat.{◌+◌, ◌*◌, min}
use mathlib.Core.Path.{◌≡◌, sym, ap, ◌∙◌}
use native.Mathlib.Omega.{arith}
use lib.ListN.{length}
use Rattle.scope.specs.Bytes.{is_digit, value}
use Rattle.classes.proofs.Runs.{past_end}
use Rattle.numerals.specs.Numerals.{cap}
use Rattle.numerals.proofs.DigitLaws.{digits_start, digits_more, digits_stop, digits_end, rest_byte}
use Rattle.numerals.proofs.digit_run.Goals as goal

pub returns-in_default : goal.returns-in_default
returns-in_default c = digits_end (digits_start c.requires) (past_end c.in_default.ensures.lookup.0)

pub loop-n-init : goal.loop-n-init
loop-n-init c =
    let e : c.args.at + 0 ≡ c.args.at = omega arith in
    rw e (digits_start c.requires)

pub returns-then-not-is_digit : goal.returns-then-not-is_digit
returns-then-not-is_digit c =
    let l = c.in-Some.ensures.lookup.0 in
    digits_stop c.loop-n.invariant (omega (arith, l.3, c.loop-n-test.true)) (c.is_digit.ensures ∙ ap is_digit (rest_byte c.args.line.now _ c.args.at _ l.2)) c.if-not-is_digit.true

pub with_digit-value-requires : goal.with_digit-value-requires
with_digit-value-requires c = (c.loop-n.invariant.low, sym c.is_digit.ensures ∙ c.if-not-is_digit.false)

pub loop-n-preserved : goal.loop-n-preserved
loop-n-preserved c =
    let l = c.in-Some.ensures.lookup.0 in
    let e : c.args.at + (c.loop-n.n + 1) ≡ c.args.at + c.loop-n.n + 1 = omega arith in
    rw e
    (digits_more c.loop-n.invariant (omega (arith, l.3, c.loop-n-test.true)) (c.is_digit.ensures ∙ ap is_digit (rest_byte c.args.line.now _ c.args.at _ l.2)) c.if-not-is_digit.false
    (c.with_digit-value.ensures ∙ ap (λ b. min cap (c.loop-n.value * 10 + value b)) (rest_byte c.args.line.now _ c.args.at _ l.2)))

pub returns : goal.returns
returns c =
    let l = c.in-Some.ensures.lookup.0 in
    let e : c.args.at + length c.in-Some.rest.now ≡ c.args.at + c.loop-n.n = omega (arith, c.loop-n-test.false, c.loop-n.auto.n-end) in
    rw e (digits_end c.loop-n.invariant (omega (arith, l.3, c.loop-n-test.false)))
