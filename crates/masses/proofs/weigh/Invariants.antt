-- `masses::weigh` meets its contract. Assumes nothing.
use Rattle.masses.proofs.TallyLaws.{Weighing}
use Rattle.masses.proofs.weigh.Given as goal

abbrev pub invariant-loop-k : goal.invariant-loop-k
invariant-loop-k l = Weighing l.bytes l.numbers l.n l.k l.t.sum l.t.lacks
