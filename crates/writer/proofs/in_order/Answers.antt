use Rattle.std.proofs.Common.{refl}
use Rattle.writer.proofs.RankLaws.{risen_start, risen_stop, risen_more, risen_end}
use Rattle.writer.proofs.in_order.Goals as goal

pub loop-k-init : goal.loop-k-init
loop-k-init c = risen_start _ _ refl

pub returns-then-r-q : goal.returns-then-r-q
returns-then-r-q c = risen_stop c.loop-k.invariant (rw c.brackets-k-end.ensures.0 at c.loop-k-test.true) c.rank_at-r.ensures c.if-r-q.true

pub loop-k-preserved : goal.loop-k-preserved
loop-k-preserved c = risen_more c.loop-k.invariant (rw c.brackets-k-end.ensures.0 at c.loop-k-test.true) c.rank_at-r.ensures c.if-r-q.false

pub returns : goal.returns
returns c = risen_end c.loop-k.invariant (rw c.brackets-k-end.ensures.0 at c.loop-k-test.false)
