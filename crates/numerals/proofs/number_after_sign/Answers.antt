-- Where no digit stands behind the sign no number goes on; else the rest follows the digits.
use Rattle.scope.specs.Bytes.{is_digit}
use Rattle.classes.proofs.Runs.{run_done}
use Rattle.numerals.proofs.NumberLaws.{sign_none, sign_some}
use Rattle.numerals.proofs.number_after_sign.Goals as goal

pub returns-then-digits-at : goal.returns-then-digits-at
returns-then-digits-at c = λ p. sign_none _ _ _ _ c.digit_run-digits.ensures c.if-digits-at.true

pub after_whole-requires : goal.after_whole-requires
after_whole-requires c = c.digit_run-digits.ensures.low

pub returns : goal.returns
returns c =
    λ p.
    let d = c.digit_run-digits.ensures in
    sign_some p _ _ _ d c.if-digits-at.false (c.after_whole.ensures p _ d.valued (run_done is_digit _ _ _ d.ends))
