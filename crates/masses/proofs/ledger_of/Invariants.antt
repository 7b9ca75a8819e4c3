-- `masses::ledger_of` meets its contract: each turn puts the copies of one bracket into the entries of the ledger that is answered. Assumes nothing.
use Rattle.masses.proofs.LedgerLaws.{BookingFloaters}
use Rattle.masses.proofs.ledger_of.Given as goal

abbrev pub invariant-loop-k : goal.invariant-loop-k
invariant-loop-k l = BookingFloaters l.bytes l.numbers l.p.at l.n l.k l.l.at l.i
