-- Nothing before the first, else the byte. Assumes nothing.
use native.Mathlib.Omega.{arith}
use Rattle.figures.proofs.Storing.{puts_none, puts_of, puts_within}
use Rattle.writer.proofs.PartTexts.{next_first, next_later}
use Rattle.writer.proofs.put_split.Goals as goal

pub returns-then-j-eq0 : goal.returns-then-j-eq0
returns-then-j-eq0 c = puts_of (next_first _ _ _ c.if-j-eq0.true) (puts_within (omega arith) (puts_none _ _))

pub returns-else-j-eq0 : goal.returns-else-j-eq0
returns-else-j-eq0 c = puts_of (next_later _ _ _ c.if-j-eq0.false) c.put.ensures
