-- `positions::labels::refers_to` meets its contract. Assumes nothing.
use mathlib.Core.Path.{sym, ◌∙◌}
use borrow.Author.Tests.{not-false}
use Rattle.positions.proofs.Names.{refers_not, refers_no_definition}
use Rattle.positions.proofs.labels.refers_to.Goals as goal
use Rattle.positions.proofs.labels.refers_to.Goals.{then-is_referring, else-is_referring}

pub returns-else-not-is_referring : goal.returns-else-not-is_referring
returns-else-not-is_referring c ns =
    rw c.if-not-is_referring.false (elim c.if-is_referring.branch [
      | then-is_referring w ↦
          refers_no_definition _ _ _ w.is_referring-then-is_referring.ensures (not-false _ (sym w.value-is ∙ c.if-not-is_referring.false)) ns
      | else-is_referring w ↦ refers_not _ _ _ c.is_referring.ensures w.if-is_referring.false ns
    ])
