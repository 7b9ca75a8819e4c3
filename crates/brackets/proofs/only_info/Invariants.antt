-- `brackets::only_info` meets its contract. Assumes nothing.
use Rattle.brackets.proofs.Laws.{Infos}
use Rattle.brackets.proofs.only_info.Given as goal

abbrev pub invariant-loop-j : goal.invariant-loop-j
invariant-loop-j l = Infos l.bytes l.k l.m l.j
