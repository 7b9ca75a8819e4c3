-- `chains::Area::is_free` meets its contract: its kind, then whether it is sound. Assumes nothing.
use Rattle.std.proofs.Common.{arith}
use Rattle.std.proofs.lemmas.Grind.{common_steps}
use Rattle.blocks.specs.Area.{is_free}
use Rattle.chains.proofs.borrowed.Area.is_free.Goals as goal

pub returns-then-kind-eq-FREE : goal.returns-then-kind-eq-FREE
unfolding is_free
returns-then-kind-eq-FREE c = grind (arith, common_steps)

pub returns-else-kind-eq-FREE : goal.returns-else-kind-eq-FREE
unfolding is_free
returns-else-kind-eq-FREE c = grind (arith, common_steps)
