-- `taking::write_chain` meets its contract. The loop: the pieces that are left, written into the area as it is, give the area at the end. Assumes nothing.
use Rattle.taking.proofs.Runs.{Putting, written_left}
use Rattle.taking.proofs.write_chain.Given as goal

abbrev pub invariant-loop-k : goal.invariant-loop-k
invariant-loop-k l = Putting (written_left l.number l.content l.blocks) l.initial.area l.k l.area
