-- `positions::marks::mark_all` meets its contract. Assumes nothing.
use Rattle.positions.proofs.Rows.{all_residues, own_and_referred}
use Rattle.positions.proofs.marks.mark_all.Goals as goal

pub returns-then-is_anywhere : goal.returns-then-is_anywhere
returns-then-is_anywhere c = all_residues _ _ c.is_anywhere.ensures c.if-is_anywhere.true c.mark.ensures c.residues-n.ensures.0

pub returns-else-is_anywhere : goal.returns-else-is_anywhere
returns-else-is_anywhere c = own_and_referred _ _ c.is_anywhere.ensures c.if-is_anywhere.false c.mark_own.ensures c.mark_references.ensures
