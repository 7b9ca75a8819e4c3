use Rattle.std.proofs.Common.{ap, ◌∙◌, take, length-take, arith}
use Rattle.std.proofs.Math.ListN.{set}
use Rattle.blocks.specs.Block.{new_kind}
use Rattle.blocks.specs.Entry.{position_bytes}
use Rattle.contents.proofs.Bytes.{copied_more}
use Rattle.contents.proofs.placement_in.Goals as goal

pub loop-i-preserved : goal.loop-i-preserved
loop-i-preserved c =
    let few = length-take (position_bytes new_kind) c.args.content.now in
    ap (λ v. set c.loop-i.at c.loop-i.i v) c.from.ensures ∙ copied_more _ _ c.loop-i.i c.loop-i.invariant (omega arith) (omega (arith, few))
