-- A minus, a plus, or nothing. Assumes nothing.
use native.Mathlib.Omega.{arith}
use Rattle.figures.proofs.Storing.{puts_none, puts_of, puts_within}
use Rattle.figures.proofs.Digits.{sign_minus, sign_plus, sign_none}
use Rattle.figures.proofs.put_sign.Goals as goal

pub returns-in-true-default : goal.returns-in-true-default
returns-in-true-default c = puts_of (sign_minus c.args.always _ c.in-true-default.is-0) c.put.ensures

pub returns-in-false-true : goal.returns-in-false-true
returns-in-false-true c = puts_of (sign_plus _ _ c.in-false-true.is-0 c.in-false-true.is-1) c.put-in-false-true.ensures

pub returns-in-false-false : goal.returns-in-false-false
returns-in-false-false c = puts_of (sign_none _ _ c.in-false-false.is-0 c.in-false-false.is-1) (puts_within (omega arith) (puts_none _ _))
