-- `brackets::is_named` meets its contract. The loop: none of the places before place j is the site. Assumes nothing.
use Rattle.brackets.proofs.Places.{NoSuchPlace}
use Rattle.brackets.proofs.is_named.Given as goal

abbrev pub invariant-loop-j : goal.invariant-loop-j
invariant-loop-j l = NoSuchPlace l.bytes l.k l.site l.m l.j
