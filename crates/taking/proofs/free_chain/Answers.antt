use Rattle.std.proofs.Common.{ap, ◌∙◌, ◌*◌, ◌<◌}
use Rattle.scope.specs.Limits.{block_size}
use Rattle.blocks.specs.Block.{free_block}
use Rattle.blocks.specs.Area.{blocks_in, put_at}
use Rattle.area_laws.specs.Fields.{free_length}
use Rattle.taking.proofs.Chained.{each_at}
use Rattle.taking.proofs.Runs.{putting_more, putting_end, free_first, free_none}
use Rattle.taking.proofs.free_chain.Goals as goal

pub loop-b-preserved : goal.loop-b-preserved
loop-b-preserved c =
    let k = c.loop-b.b-index in
    let blocks = c.args.blocks.now in
    let inside = each_at (λ b. b < blocks_in c.args.area.now) blocks k c.requires c.loop-b-test.true in
    putting_more _ free_block c.loop-b.invariant (free_first blocks k c.loop-b-test.true) inside free_length
    (c.free_at.ensures ∙ ap (λ b. put_at (block_size * b) free_block c.loop-b.area) c.from.ensures)

pub returns : goal.returns
returns c = putting_end c.loop-b.invariant (free_none c.args.blocks.now c.loop-b.b-index c.loop-b-test.false)
