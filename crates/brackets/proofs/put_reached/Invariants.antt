-- `brackets::put_reached` meets its contract. The loop: the positions before x that are named are laid over what the slice begins with. Assumes nothing.
use Rattle.brackets.proofs.Places.{Naming, Put}
use Rattle.brackets.proofs.put_reached.Given as goal

abbrev pub invariant-loop-x : goal.invariant-loop-x
invariant-loop-x l = Naming l.bytes l.k l.all l.x (Put l.n l.initial.out l.out)
