-- As many as k says: each arm by its number, the last one where k is none of those before. Assumes nothing.
use mathlib.Core.Path.{◌≡◌}
use native.Mathlib.Omega.{arith}
use Rattle.scope.specs.Canonical.{last_digits}
use Rattle.figures.specs.Written.{group_size}
use Rattle.figures.proofs.Storing.{copied_none, puts_last}
use Rattle.figures.proofs.store_digits.Goals as goal

pub returns-in-0 : goal.returns-in-0
unfolding last_digits
returns-in-0 c = rw c.in-0.is (copied_none _ _)

pub returns-in-1 : goal.returns-in-1
returns-in-1 c = puts_last 1 _ c.in-1.is c.store_one.ensures

pub returns-in-2 : goal.returns-in-2
returns-in-2 c = puts_last 2 _ c.in-2.is c.store_two.ensures

pub returns-in-3 : goal.returns-in-3
returns-in-3 c = puts_last 3 _ c.in-3.is c.store_three.ensures

pub returns-in-4 : goal.returns-in-4
returns-in-4 c = puts_last 4 _ c.in-4.is c.store_four.ensures

pub returns-in-5 : goal.returns-in-5
returns-in-5 c = puts_last 5 _ c.in-5.is c.store_five.ensures

pub returns-in_default : goal.returns-in_default
returns-in_default c =
    let six : c.args.k ≡ group_size = omega arith in
    puts_last group_size _ six c.store_six.ensures
