-- `brackets::is_labelled` meets its contract. Assumes nothing.
use Rattle.brackets.proofs.Laws.{NoLabels}
use Rattle.brackets.proofs.is_labelled.Given as goal

abbrev pub invariant-loop-j : goal.invariant-loop-j
invariant-loop-j l = NoLabels l.bytes l.k l.m l.j
