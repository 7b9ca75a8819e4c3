-- `block::is_padded` meets its contract: a used length that has room, and zeros behind it. Assumes nothing.
use Rattle.std.proofs.Common.{◌∙◌, arith}
use Rattle.std.proofs.lemmas.Grind.{common_steps}
use Rattle.blocks.specs.Block.{is_padded}
use Rattle.block.proofs.Answers.{padded_is}
use Rattle.block.proofs.is_padded.Goals as goal

pub returns-then-m-le-ROOM : goal.returns-then-m-le-ROOM
returns-then-m-le-ROOM c = c.are_zero.ensures ∙ padded_is _ _ c.used-m.ensures.0 c.if-m-le-ROOM.true

pub returns-else-m-le-ROOM : goal.returns-else-m-le-ROOM
unfolding is_padded
returns-else-m-le-ROOM c = grind (arith, common_steps)
