-- The last byte and the one before it, by the tests. Assumes nothing.
use Rattle.std.proofs.Common.{sym, ◌∙◌, arith}
use Rattle.glycans.proofs.Counts.{no_bytes, no_count, first_byte, after_name, zero_first, two_digits_is}
use Rattle.glycans.proofs.last_count.Goals as goal

pub returns-then-end-eq0 : goal.returns-then-end-eq0
returns-then-end-eq0 c = no_bytes _ c.if-end-eq0.true

pub returns-then-not-is_digit : goal.returns-then-not-is_digit
returns-then-not-is_digit c = no_count _ (omega arith) (sym c.is_digit.ensures ∙ c.if-not-is_digit.true)

pub returns-then-end-eq1 : goal.returns-then-end-eq1
returns-then-end-eq1 c = first_byte _ (omega arith) (sym c.is_digit.ensures ∙ c.if-not-is_digit.false) c.if-end-eq1.true _ c.one_digit.ensures

pub returns-then-not-is_digit-2 : goal.returns-then-not-is_digit-2
returns-then-not-is_digit-2 c =
    after_name _ (omega arith) (sym c.is_digit.ensures ∙ c.if-not-is_digit.false) c.if-end-eq1.false (sym c.is_digit-2.ensures ∙ c.if-not-is_digit-2.true) _
    c.one_digit-then-not-is_digit-2.ensures

pub returns-then-tens-eq48 : goal.returns-then-tens-eq48
returns-then-tens-eq48 c =
    zero_first _ (omega arith) (sym c.is_digit.ensures ∙ c.if-not-is_digit.false) c.if-end-eq1.false (sym c.is_digit-2.ensures ∙ c.if-not-is_digit-2.false)
    c.if-tens-eq48.true

pub returns : goal.returns
returns c =
    two_digits_is _ (omega arith) (sym c.is_digit.ensures ∙ c.if-not-is_digit.false) c.if-end-eq1.false (sym c.is_digit-2.ensures ∙ c.if-not-is_digit-2.false)
    c.if-tens-eq48.false
