use Rattle.rows.proofs.Firsts.{seeking_found, seeking_next, seeking_end, looked}
use Rattle.rows.proofs.first_row.Goals as goal

pub returns-then-row-floater : goal.returns-then-row-floater
returns-then-row-floater c =
    looked _ _ _ c.min.ensures c.if-rows-lt-ROWS.false (seeking_found c.loop-index.invariant c.loop-index-test.true c.if-row-floater.true)

pub loop-index-preserved : goal.loop-index-preserved
loop-index-preserved c = seeking_next c.loop-index.invariant c.loop-index-test.true c.if-row-floater.false

pub returns : goal.returns
returns c = looked _ _ _ c.min.ensures c.if-rows-lt-ROWS.false (seeking_end c.loop-index.invariant c.loop-index-test.false)
