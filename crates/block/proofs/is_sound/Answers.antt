-- `block::is_sound` meets its contract: the sum, then the next block. Assumes nothing.
use Rattle.std.proofs.Common.{rules, arith}
use Rattle.std.proofs.lemmas.Grind.{common_steps}
use Rattle.block.proofs.Answers.{sound_is}
use Rattle.block.proofs.is_sound.Goals as goal

pub returns-then-after : goal.returns-then-after
returns-then-after c =
    let e = sound_is c.args.n c.args.block.now _ _ _ (search rules) c.four_at.ensures c.sum.ensures c.next-after.ensures in grind (arith, common_steps, e)

pub returns-else-after : goal.returns-else-after
returns-else-after c =
    let e = sound_is c.args.n c.args.block.now _ _ _ (search rules) c.four_at.ensures c.sum.ensures c.next-after.ensures in grind (arith, common_steps, e)

pub returns-else-four_at-sum : goal.returns-else-four_at-sum
returns-else-four_at-sum c =
    let e = sound_is c.args.n c.args.block.now _ _ _ (search rules) c.four_at.ensures c.sum.ensures c.next-after.ensures in grind (arith, common_steps, e)
