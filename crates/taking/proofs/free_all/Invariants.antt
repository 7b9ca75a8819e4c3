-- `taking::free_all` meets its contract. The loop: the first b blocks are free now. Assumes nothing.
use Rattle.blocks.specs.Block.{free_block}
use Rattle.blocks.specs.Area.{blocks_in}
use Rattle.taking.proofs.Runs.{Filled}
use Rattle.taking.proofs.free_all.Given as goal

abbrev pub invariant-loop-b : goal.invariant-loop-b
invariant-loop-b l = Filled free_block l.initial.area (blocks_in l.initial.area) l.b l.area
