-- The invariant: of the g groups those before the last i are written. Assumes nothing.
use Rattle.figures.specs.Written.{group_size}
use Rattle.figures.proofs.Progress.{Begun}
use Rattle.figures.proofs.put_groups.Given as goal

abbrev pub invariant-loop-i : goal.invariant-loop-i
invariant-loop-i l = Begun group_size l.n l.g l.initial.out l.at l.out l.i l.a

abbrev pub decreases-loop-i : goal.decreases-loop-i
decreases-loop-i l = l.i
