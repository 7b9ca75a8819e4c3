-- Where no digit stands behind the point no number goes on; else the digits behind it count as decimals.
use Rattle.numerals.proofs.DigitLaws.{cap_behind}
use Rattle.numerals.proofs.NumberLaws.{point_none, point_some}
use Rattle.numerals.proofs.after_point.Goals as goal

pub returns-then-digits-at : goal.returns-then-digits-at
returns-then-digits-at c = λ p m e. point_none _ _ _ _ c.digit_run-digits.ensures m c.if-digits-at.true

pub finished-requires : goal.finished-requires
finished-requires c = c.digit_run-digits.ensures.low

pub returns : goal.returns
returns c =
    λ p m e.
    let d = c.digit_run-digits.ensures in
    point_some _ _ _ _ d m c.if-digits-at.false (c.finished.ensures p _ (cap_behind _ _ _ _ _ d m e))
