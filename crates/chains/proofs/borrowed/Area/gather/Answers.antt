use Rattle.std.proofs.Common.{ap, ◌∙◌, ◌*◌, arith, rules}
use Rattle.scope.specs.Lists.{part}
use Rattle.blocks.specs.Block.{content_at, content_room, used_length, next_block}
use Rattle.blocks.specs.Area.{put_at}
use Rattle.chains.proofs.Following.{following_start, breaks, ends, content_few, content_fits, gathered, following_more}
use Rattle.chains.proofs.borrowed.Area.gather.Goals as goal

pub loop-k-init : goal.loop-k-init
loop-k-init c = following_start _ _ c.args.self.now.whole c.requires c.kind-kind.ensures (search rules) (search rules) (search rules)

pub returns-then-not-links : goal.returns-then-not-links
returns-then-not-links c = breaks c.loop-k.invariant c.links.ensures c.if-not-links.true

pub copy_content-requires : goal.copy_content-requires
copy_content-requires c =
    let w = c.loop-k.invariant in
    let used = c.used-m.ensures.0 ∙ ap (λ x. used_length x) c.block-block.ensures in
    (content_few w c.loop-k-test.true c.links.ensures c.if-not-links.false used, content_fits w c.loop-k-test.true c.links.ensures c.if-not-links.false used)

pub invariant_of-result : goal.invariant_of-result
invariant_of-result c =
    let w = c.loop-k.invariant in
    let used = c.used-m.ensures.0 ∙ ap (λ x. used_length x) c.block-block.ensures in
    let fits = content_fits w c.loop-k-test.true c.links.ensures c.if-not-links.false used in
    record { few = omega (arith, w.low); fits = omega (arith, w.long) }

pub returns-then-next : goal.returns-then-next
returns-then-next c =
    let used = c.used-m.ensures.0 ∙ ap (λ x. used_length x) c.block-block.ensures in
    let put = c.copy_content.ensures ∙ ap (λ x. put_at (c.loop-k.k * content_room) (part content_at c.used-m.result x) c.loop-k.room) c.block-block.ensures in
    let next = c.next-next.ensures ∙ ap (λ x. next_block x) c.block-block.ensures in
    gathered c.loop-k.invariant c.loop-k-test.true c.links.ensures c.if-not-links.false used put next c.if-next.true

pub loop-k-preserved : goal.loop-k-preserved
loop-k-preserved c =
    let used = c.used-m.ensures.0 ∙ ap (λ x. used_length x) c.block-block.ensures in
    let put = c.copy_content.ensures ∙ ap (λ x. put_at (c.loop-k.k * content_room) (part content_at c.used-m.result x) c.loop-k.room) c.block-block.ensures in
    let next = c.from-b.ensures ∙ c.next-next.ensures ∙ ap (λ x. next_block x) c.block-block.ensures in
    following_more c.loop-k.invariant c.loop-k-test.true c.links.ensures c.if-not-links.false used put next (λ e. c.if-next.false (omega (arith, c.from-b.ensures)))

pub returns : goal.returns
returns c = ends c.loop-k.invariant c.loop-k-test.false
