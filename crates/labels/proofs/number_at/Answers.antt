-- A number with a sign or without.
use mathlib.Core.Path.{refl, sym, ◌∙◌}
use Rattle.values.proofs.Words.{unsigned_over}
use Rattle.labels.proofs.Scores.{number_signed, number_unsigned}
use Rattle.labels.proofs.number_at.Goals as goal
use Rattle.labels.proofs.number_at.Goals.{else-at-line-via-then-at-line+else-is_sign, else-at-line-via-else-at-line}

pub returns-then-is_sign : goal.returns-then-is_sign
returns-then-is_sign c = number_signed _ _ _ refl (sym c.is_sign.ensures ∙ c.if-is_sign.true) _ (c.number_after_sign.ensures _)

pub returns-else-at-line : goal.returns-else-at-line
returns-else-at-line c =
    number_unsigned _ _
    elim c.else-at-line.branch [
      | else-at-line-via-then-at-line+else-is_sign w ↦ sym w.is_sign.ensures ∙ w.if-is_sign.false
      | else-at-line-via-else-at-line w ↦ sym (unsigned_over _ _ w.if-at-line.false)
    ]
    _ (c.number_unsigned.ensures _)
