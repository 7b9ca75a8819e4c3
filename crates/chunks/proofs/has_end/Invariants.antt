-- `chunks::has_end` meets its contract. The loop: of the first i bytes of the stride it is told. Assumes nothing.
use Rattle.chunks.proofs.Cutting.{Looked}
use Rattle.chunks.proofs.has_end.Given as goal

abbrev pub invariant-loop-i : goal.invariant-loop-i
invariant-loop-i l = Looked l.chunk l.at l.i l.so
