-- `chains::Area::is_head` meets its contract: its kind, then whether it is sound. Assumes nothing.
use Rattle.std.proofs.Common.{arith}
use Rattle.std.proofs.lemmas.Grind.{common_steps}
use Rattle.blocks.specs.Answers.{is_head}
use Rattle.chains.proofs.borrowed.Area.is_head.Goals as goal

pub returns-then-is_first : goal.returns-then-is_first
unfolding is_head
returns-then-is_first c = grind (arith, common_steps)

pub returns-else-is_first : goal.returns-else-is_first
unfolding is_head
returns-else-is_first c = grind (arith, common_steps)
