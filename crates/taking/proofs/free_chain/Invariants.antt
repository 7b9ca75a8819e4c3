-- `taking::free_chain` meets its contract. The loop: the blocks that are left, made free in the area as it is, give the area at the end. Assumes nothing.
use Rattle.taking.proofs.Runs.{Putting, free_left}
use Rattle.taking.proofs.free_chain.Given as goal

abbrev pub invariant-loop-b : goal.invariant-loop-b
invariant-loop-b l = Putting (free_left l.blocks) l.initial.area l.b-index l.area
