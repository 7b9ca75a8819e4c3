-- `brackets::reached` meets its contract. The loop: n of the positions before x are named. Assumes nothing.
use Rattle.brackets.proofs.Places.{Naming, Counted}
use Rattle.brackets.proofs.reached.Given as goal

abbrev pub invariant-loop-x : goal.invariant-loop-x
invariant-loop-x l = Naming l.bytes l.k l.end l.x (Counted l.n)
