-- `positions::marks::mark_own` meets its contract. Assumes nothing.
use Rattle.brackets.specs.Fields.{first_is, last_is}
use Rattle.positions.proofs.Rows.{own_marked, no_own}
use Rattle.positions.proofs.marks.mark_own.Goals as goal

pub returns-then-has_place : goal.returns-then-has_place
returns-then-has_place c =
    own_marked _ _ c.kind.ensures c.has_place.ensures c.if-has_place.true c.mark.ensures (first_is _ _ c.first-a.ensures.0) (last_is _ _ c.last-e.ensures.0)

pub returns-else-has_place : goal.returns-else-has_place
returns-else-has_place c = no_own _ _ c.kind.ensures c.has_place.ensures c.if-has_place.false
