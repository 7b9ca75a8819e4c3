-- `brackets::copies_of` meets its contract. Assumes nothing.
use Rattle.brackets.proofs.Laws.{copies_by_kind}
use Rattle.brackets.specs.Fields.{count_is}
use Rattle.brackets.proofs.copies_of.Goals as goal

pub returns-else-is_labelled : goal.returns-else-is_labelled
returns-else-is_labelled c ns =
    copies_by_kind _ (c.is_modification.ensures ns) c.if-not-is_modification.false (c.is_labelled.ensures ns) c.if-is_labelled.false (c.kind.ensures ns) (count_is _ _ c.count.ensures.0 ns) c.unlabelled_copies.ensures
