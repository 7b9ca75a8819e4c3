-- `calls::residue_count` meets its contract: the number that the areas hold.
use mathlib.Core.Path.{sym, ap, ◌∙◌}
use Rattle.scope.specs.Answers.{good, residue_count}
use Rattle.basics.specs.Tabled.{residues_many}
use Rattle.calls.proofs.Laws.{answers}
use Rattle.calls.proofs.residue_count.Goals as goal

pub returns : goal.returns
returns c = sym (answers (λ t. good (residue_count t)) c.in_ok-bytes.ensures ∙ ap good (residues_many _ _ ∙ sym c.residues.ensures.0))
