-- `brackets::is_referring` meets its contract. Assumes nothing.
use mathlib.Core.Path.{refl, ap, ◌∙◌}
use mathlib.Core.Bool.{not}
use borrow.Author.Tests.{eq-eqb}
use denote.Enum.Bare.{sameb}
use Rattle.brackets.specs.contracts.Content.{the_type}
use Rattle.brackets.specs.declared.Content.TheVariants.{Reference}
use Rattle.scope.specs.Layout.{value_field}
use Rattle.brackets.proofs.Laws.{no_part, refers_content, reference_is}
use Rattle.brackets.proofs.is_referring.Goals as goal

pub returns-then-parts-ne0 : goal.returns-then-parts-ne0
returns-then-parts-ne0 c ns =
    c.eq.ensures ∙ ap (λ v. sameb the_type v Reference) c.content_at.ensures ∙ refers_content (value_field c.args.bytes.now c.args.k 0)
    ∙ reference_is _ _ _ _ c.parts.ensures.0 c.if-parts-ne0.true refl ns

pub returns-else-parts-ne0 : goal.returns-else-parts-ne0
returns-else-parts-ne0 c ns = ap not (eq-eqb _ _ c.if-parts-ne0.false) ∙ no_part _ _ _ c.parts.ensures.0 c.if-parts-ne0.false ns
