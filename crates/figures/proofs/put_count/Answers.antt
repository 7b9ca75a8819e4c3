-- Nothing for a count of one, else `^` and the count. Assumes nothing.
use native.Mathlib.Omega.{arith}
use Rattle.figures.proofs.Storing.{puts_none, puts_of, puts_within, puts_join}
use Rattle.figures.proofs.Digits.{count_one, count_more}
use Rattle.figures.proofs.put_count.Goals as goal

pub returns-then-n-eq1 : goal.returns-then-n-eq1
returns-then-n-eq1 c = puts_of (count_one _ c.if-n-eq1.true) (puts_within (omega arith) (puts_none _ _))

pub returns : goal.returns
returns c = puts_of (count_more _ c.if-n-eq1.false) (puts_within (omega arith) (puts_join c.put-a.ensures c.put_decimal.ensures))
