-- `taking::find_frees` meets its contract. The loop: the free blocks that were taken and those from a block on are all. Assumes nothing.
use Rattle.taking.proofs.Lowest.{Taken}
use Rattle.taking.proofs.find_frees.Given as goal

abbrev pub invariant-loop-k : goal.invariant-loop-k
invariant-loop-k l = Taken l.area.bytes.now l.area.blocks l.need l.from l.k l.row
