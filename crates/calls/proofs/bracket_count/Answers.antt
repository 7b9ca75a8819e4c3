-- `calls::bracket_count` meets its contract: the number that the areas hold.
use mathlib.Core.Path.{sym, ap, ◌∙◌}
use Rattle.scope.specs.Answers.{good, bracket_count}
use Rattle.basics.specs.Tabled.{brackets_many}
use Rattle.calls.proofs.Laws.{answers}
use Rattle.calls.proofs.bracket_count.Goals as goal

pub returns : goal.returns
returns c = sym (answers (λ t. good (bracket_count t)) c.in_ok-bytes.ensures ∙ ap good (brackets_many _ _ ∙ sym c.brackets.ensures.0))
