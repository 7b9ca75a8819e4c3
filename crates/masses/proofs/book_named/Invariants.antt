-- `masses::book_named` meets its contract. The loop: of the positions before x, each that is named has the mass. Assumes nothing.
use Rattle.masses.proofs.LedgerLaws.{BookingNamed}
use Rattle.masses.proofs.book_named.Given as goal

abbrev pub invariant-loop-x : goal.invariant-loop-x
invariant-loop-x l = BookingNamed l.bytes l.k l.end l.m l.x l.initial.l l.l
