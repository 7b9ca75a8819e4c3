-- `by_code` meets its contract: a code below all that say "none" has the reason of its rank, at its place. Assumes nothing.
use Rattle.verdict.proofs.Judging.{code_refuses, code_holds}
use Rattle.verdict.proofs.by_code.Goals as goal

pub reason_of-requires : goal.reason_of-requires
reason_of-requires c l = c.if-c-lt-NONE.true

pub returns-then-c-lt-NONE : goal.returns-then-c-lt-NONE
returns-then-c-lt-NONE c = λ l. code_refuses _ _ l c.if-c-lt-NONE.true (c.reason_of.ensures l) c.place_of.ensures

pub returns-else-c-lt-NONE : goal.returns-else-c-lt-NONE
returns-else-c-lt-NONE c = λ l. code_holds _ _ l c.if-c-lt-NONE.false
