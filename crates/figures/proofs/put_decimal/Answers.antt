-- A number of one digit is put here, any other by its size. Assumes nothing.
use native.Mathlib.Omega.{arith}
use Rattle.figures.proofs.Storing.{puts_of, puts_within}
use Rattle.figures.proofs.Digits.{decimal_digit}
use Rattle.figures.proofs.put_decimal.Goals as goal

pub returns-then-n-lt-TEN : goal.returns-then-n-lt-TEN
returns-then-n-lt-TEN c = puts_of (decimal_digit _ c.if-n-lt-TEN.true c.digit.ensures) (puts_within (omega arith) c.put.ensures)
