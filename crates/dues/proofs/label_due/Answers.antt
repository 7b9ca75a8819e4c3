-- `label_due` meets its contract: what is due of the name, of the score and of the length, one after another. Assumes nothing.
use Rattle.dues.proofs.Labels.{due_label}
use Rattle.dues.proofs.label_due.Goals as goal

pub returns : goal.returns
returns c = λ l g. due_label _ _ _ l g _ c.is_link.ensures c.due_if-a.ensures c.is_wide_score.ensures c.due_if-b.ensures c.due_if.ensures
