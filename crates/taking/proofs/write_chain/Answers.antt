use Rattle.std.proofs.Common.{ap, ◌∙◌, ◌*◌, ◌<◌, length, drop, length-take, arith}
use Rattle.blocks.specs.Block.{content_room}
use Rattle.blocks.specs.Area.{blocks_in, replaced}
use Rattle.taking.proofs.Runs.{bytes_long, putting_more, putting_end, written_first, written_none, written_all, bytes_at}
use Rattle.taking.proofs.Chained.{each_at, piece_put}
use Rattle.taking.proofs.write_chain.Goals as goal

pub put_at-requires : goal.put_at-requires
put_at-requires c =
    let inside = each_at (λ b. b < blocks_in c.args.area.now) c.args.blocks.now c.loop-k.k c.requires.0 c.loop-k-test.true in
    let few = length-take content_room (drop (content_room * c.loop-k.k) c.args.content.now) in
    (omega (arith, inside, c.from.ensures, c.loop-k.invariant.same), omega (arith, few, ap length c.piece_of.ensures))

pub loop-k-preserved : goal.loop-k-preserved
loop-k-preserved c =
    let k = c.loop-k.k in
    let l = c.args.content.now in
    let blocks = c.args.blocks.now in
    let inside = each_at (λ b. b < blocks_in c.args.area.now) blocks k c.requires.0 c.loop-k-test.true in
    putting_more _ (bytes_at c.args.number l blocks k) c.loop-k.invariant (written_first c.args.number l blocks k c.loop-k-test.true) inside
    (bytes_long c.args.number l blocks k)
    (c.put_at.ensures ∙ piece_put c.loop-k.area c.args.number c.from.ensures c.kind_of.ensures c.next_of.ensures c.piece_of.ensures)

pub returns : goal.returns
returns c =
    let l = c.args.content.now in
    let blocks = c.args.blocks.now in
    putting_end c.loop-k.invariant (written_none c.args.number l blocks c.loop-k.k c.loop-k-test.false)
    ∙ ap (λ ps. replaced ps c.args.area.now) (written_all c.args.number l blocks c.requires.1)
