-- `masses::placed_ledger` meets its contract: each turn books one bracket in the entries of the ledger that is answered. Assumes nothing.
use Rattle.masses.proofs.LedgerLaws.{BookingPlaced}
use Rattle.masses.proofs.placed_ledger.Given as goal

abbrev pub invariant-loop-k : goal.invariant-loop-k
invariant-loop-k l = BookingPlaced l.bytes l.numbers l.n l.k l.l.at
