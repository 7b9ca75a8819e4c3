-- The invariant: of the k digits those before the last i are written. Assumes nothing.
use Rattle.figures.proofs.Progress.{Begun}
use Rattle.figures.proofs.put_each.Given as goal

abbrev pub invariant-loop-i : goal.invariant-loop-i
invariant-loop-i l = Begun 1 l.n l.k l.initial.out l.at l.out l.i l.a

abbrev pub decreases-loop-i : goal.decreases-loop-i
decreases-loop-i l = l.i
