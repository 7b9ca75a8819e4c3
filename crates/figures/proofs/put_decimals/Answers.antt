-- Nothing where there are no decimals, else the point and the last digits. Assumes nothing.
use native.Mathlib.Omega.{arith}
use Rattle.figures.proofs.Storing.{puts_none, puts_of, puts_within, puts_join}
use Rattle.figures.proofs.Digits.{decimals_none, decimals_some}
use Rattle.figures.proofs.put_decimals.Goals as goal

pub returns-then-d-eq0 : goal.returns-then-d-eq0
returns-then-d-eq0 c = puts_of (decimals_none _ _ c.if-d-eq0.true) (puts_within (omega arith) (puts_none _ _))

pub returns : goal.returns
returns c =
    puts_of (decimals_some _ _ c.if-d-eq0.false) (puts_within (omega arith) (puts_join c.put-a.ensures c.put_digits.ensures))
