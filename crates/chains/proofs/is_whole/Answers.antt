-- `chains::is_whole` meets its contract: test by test. Assumes nothing.
use Rattle.std.proofs.Common.{arith}
use Rattle.std.proofs.lemmas.Grind.{common_steps}
use Rattle.blocks.specs.Area.{whole_blocks}
use Rattle.chains.proofs.is_whole.Goals as goal

pub returns-then-blocks-gt0 : goal.returns-then-blocks-gt0
unfolding whole_blocks
returns-then-blocks-gt0 c = grind (arith, common_steps)

pub returns-else-blocks-gt0 : goal.returns-else-blocks-gt0
unfolding whole_blocks
returns-else-blocks-gt0 c = grind (arith, common_steps)
