-- `not_read` meets its contract: 3 where a byte is not printable, else 4. Assumes nothing.
use Rattle.verdict.proofs.Judging.{unprintable_is, stuck_is}
use Rattle.verdict.proofs.not_read.Goals as goal

pub returns-then-end-line : goal.returns-then-end-line
returns-then-end-line c = unprintable_is _ _ _ c.printable_end-end.ensures c.if-end-line.true

pub returns-else-end-line : goal.returns-else-end-line
returns-else-end-line c = stuck_is _ _ _ c.printable_end-end.ensures c.if-end-line.false
