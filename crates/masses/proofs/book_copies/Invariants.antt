-- `masses::book_copies` meets its contract. Assumes nothing.
use Rattle.masses.proofs.LedgerLaws.{Putting}
use Rattle.masses.proofs.book_copies.Given as goal

abbrev pub invariant-loop-j : goal.invariant-loop-j
invariant-loop-j l = Putting l.initial.l l.at l.i l.c l.m l.end l.j l.l
