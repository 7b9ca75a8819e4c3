-- A byte is stored where there is room, and counted in any case. Assumes nothing.
use Rattle.figures.proofs.Storing.{puts_stored, puts_counted}
use Rattle.figures.proofs.put.Goals as goal
use Rattle.figures.proofs.put.Goals.{then-at-out, else-at-out}

pub returns : goal.returns
returns c =
    elim c.if-at-out.branch [
      | then-at-out w ↦ rw w.out-is (puts_stored _ _ _)
      | else-at-out w ↦ rw w.out-is (puts_counted _ _ _ w.if-at-out.false)
    ]
