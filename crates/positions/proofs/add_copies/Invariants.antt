-- `positions::add_copies` meets its contract. The loop's invariant: the first j copies of bracket k are written behind the first n floaters.
use Rattle.positions.proofs.Found.{CopiesWritten}
use Rattle.positions.proofs.add_copies.Given as goal

abbrev pub invariant-loop-j : goal.invariant-loop-j
invariant-loop-j l = CopiesWritten l.n l.m l.k l.j l.initial.index l.initial.copy l.index l.copy
