-- `due_if` meets its contract: a place more of a rule, or none. Assumes nothing.
use Rattle.dues.proofs.Lowest.{taken, left}
use Rattle.dues.proofs.due_if.Goals as goal

pub returns-then-so : goal.returns-then-so
returns-then-so c = taken _ _ _ c.if-so.true c.due.ensures

pub returns-else-so : goal.returns-else-so
returns-else-so c = left _ _ _ c.if-so.false
