-- `positions::marks::mark_reference` meets its contract. Assumes nothing.
use Rattle.brackets.specs.Fields.{first_is, last_is}
use Rattle.positions.proofs.Rows.{reference_marked, no_reference}
use Rattle.positions.proofs.marks.mark_reference.Goals as goal

pub returns-then-refers_to : goal.returns-then-refers_to
returns-then-refers_to c =
    reference_marked _ _ _ c.refers_to.ensures c.if-refers_to.true c.mark.ensures (first_is _ _ c.first-a.ensures.0) (last_is _ _ c.last-e.ensures.0)

pub returns-else-refers_to : goal.returns-else-refers_to
returns-else-refers_to c = no_reference _ _ _ c.refers_to.ensures c.if-refers_to.false
