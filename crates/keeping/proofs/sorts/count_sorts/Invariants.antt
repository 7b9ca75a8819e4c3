-- `keeping::sorts::count_sorts` meets its contract. The loop: the blocks before b are counted. Assumes nothing.
use Rattle.keeping.specs.Sorts.{Counted}
use Rattle.keeping.proofs.sorts.count_sorts.Given as goal

abbrev pub invariant-loop-b : goal.invariant-loop-b
invariant-loop-b l = Counted l.area.bytes.now l.b l.of
