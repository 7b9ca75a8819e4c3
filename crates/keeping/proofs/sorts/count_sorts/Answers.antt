use Rattle.std.proofs.Common.{◌∙◌, arith}
use Rattle.keeping.proofs.Surveyed.{counted_start, counted_few, counted_more, counted_all, counts_are}
use Rattle.keeping.proofs.sorts.count_sorts.Goals as goal

pub loop-b-init : goal.loop-b-init
loop-b-init c = counted_start _

pub overflow_add-of : goal.overflow_add-of
overflow_add-of c = record { fits = omega (arith, c.args.area.now.whole.few, counted_few c.loop-b.invariant c.index_of-sort.ensures.1) }

pub loop-b-preserved : goal.loop-b-preserved
loop-b-preserved c = counted_more c.loop-b.invariant c.index_of-sort.ensures.1 (c.index_of-sort.ensures.0 ∙ c.sort_at.ensures)

pub returns : goal.returns
returns c = counts_are c.args.area.now.whole.many (counted_all c.loop-b.invariant (omega arith))
