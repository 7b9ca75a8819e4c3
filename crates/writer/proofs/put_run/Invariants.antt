-- The invariant: the brackets up to j of the rank that is asked for are written. Assumes nothing.
use Rattle.writer.proofs.RunLaws.{Running}
use Rattle.writer.proofs.put_run.Given as goal

abbrev pub invariant-loop-j : goal.invariant-loop-j
invariant-loop-j l = Running l.bytes l.numbers l.m l.from l.q l.shape l.initial.out l.at l.out l.j l.a
