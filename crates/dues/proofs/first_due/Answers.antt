-- `first_due` meets its contract: the first of some places is the lowest code of its rank. Assumes nothing.
use Rattle.dues.proofs.Lowest.{no_place, a_place}
use Rattle.dues.proofs.first_due.Goals as goal

pub returns-in-None : goal.returns-in-None
returns-in-None c ps e = no_place _ _ ps c.in-None.is e

pub returns-in-Some : goal.returns-in-Some
returns-in-Some c ps e = a_place _ _ ps _ c.in-Some.is e c.due.ensures
