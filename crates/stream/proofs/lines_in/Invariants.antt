-- `stream::lines_in` meets its contract. The loop: the ends among the bytes before are counted. Assumes nothing.
use Rattle.stream.proofs.Telling.{EndsCounted}
use Rattle.stream.proofs.lines_in.Given as goal

abbrev pub invariant-loop-b : goal.invariant-loop-b
invariant-loop-b l = EndsCounted l.text l.b-index l.ends
