-- `chunks::line_end` meets its contract. The loop: no byte 10 stands before i. Assumes nothing.
use Rattle.chunks.specs.Cuts.{Passed}
use Rattle.chunks.proofs.line_end.Given as goal

abbrev pub invariant-loop-i : goal.invariant-loop-i
invariant-loop-i l = Passed l.chunk l.from l.i
