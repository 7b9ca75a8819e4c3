-- A value begins with a sign, with `#`, or as a word.
use borrow.Author.Rules.{rules}
use mathlib.Core.Path.{sym, ◌∙◌}
use Rattle.scope.specs.Content.{begin, inner_step}
use Rattle.values.proofs.Saying.{over, begins}
use Rattle.values.proofs.Begins.{sign_first, sign_begins}
use Rattle.values.proofs.value_at.Goals as goal

pub returns-then-line-at : goal.returns-then-line-at
returns-then-line-at c = λ k. begins _ _ _ _ (over _ _ _ (λ x. inner_step _ (begin x)) c.if-line-at.true k)

pub returns-then-is_sign : goal.returns-then-is_sign
returns-then-is_sign c =
    λ k.
    begins _ _ _ _
    (sign_begins _ _ _ _ c.if-line-at.false (λ x. inner_step _ (begin x)) (λ x. sign_first x _ _ (sym c.is_sign.ensures ∙ c.if-is_sign.true)) _ (c.mass_at.ensures _ (search rules)))

pub returns-then-b-eq35 : goal.returns-then-b-eq35
returns-then-b-eq35 c = λ k. c.reference_at.ensures _ c.if-line-at.false c.if-b-eq35.true

pub returns-else-b-eq35 : goal.returns-else-b-eq35
returns-else-b-eq35 c = λ k. begins _ _ _ _ (c.word_at.ensures (sym c.is_sign.ensures ∙ c.if-is_sign.false) c.if-b-eq35.false)
