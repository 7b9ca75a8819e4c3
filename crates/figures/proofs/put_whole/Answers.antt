-- Each size has its digits, or its groups. Assumes nothing.
use native.Mathlib.Omega.{arith}
use Rattle.figures.proofs.Storing.{puts_decimal}
use borrow.Author.Rules.{rules}
use Rattle.figures.proofs.put_whole.Goals as goal

pub returns-in-0-to-9 : goal.returns-in-0-to-9
returns-in-0-to-9 c = puts_decimal 0 _ (λ z. absurd (omega arith)) (search rules) (omega arith) c.put_digits.ensures

pub returns-in-10-to-99 : goal.returns-in-10-to-99
returns-in-10-to-99 c = puts_decimal 1 _ (λ z. search rules) (search rules) (omega arith) c.put_digits-in-10-to-99.ensures

pub returns-in-100-to-999 : goal.returns-in-100-to-999
returns-in-100-to-999 c = puts_decimal 2 _ (λ z. search rules) (search rules) (omega arith) c.put_digits-in-100-to-999.ensures

pub returns-in-1000-to-9999 : goal.returns-in-1000-to-9999
returns-in-1000-to-9999 c = puts_decimal 3 _ (λ z. search rules) (search rules) (omega arith) c.put_digits-in-1000-to-9999.ensures

pub returns-in-10000-to-99999 : goal.returns-in-10000-to-99999
returns-in-10000-to-99999 c = puts_decimal 4 _ (λ z. search rules) (search rules) (omega arith) c.put_digits-in-10000-to-99999.ensures

pub returns-in-100000-to-999999 : goal.returns-in-100000-to-999999
returns-in-100000-to-999999 c = puts_decimal 5 _ (λ z. search rules) (search rules) (omega arith) c.put_digits-in-100000-to-999999.ensures
