-- The note of a score is small.
use Prim.Native.Nat.{ℕ, ◌+◌, ◌≤◌}
use mathlib.Core.Option.{Option, none, some}
use native.Mathlib.Omega.{arith}
use borrow.Author.Tests.{leb-true}
use Rattle.scope.specs.Limits.{decimal_limit}
use Rattle.scope.specs.Line.{Number}
use Rattle.scope.specs.Refusals.{in_range}
use Rattle.basics.specs.Choice.{by_test}
use Rattle.basics.specs.Tests.{and_left}
use Rattle.sheet.specs.Rows.{score_noted}

pub score_small : (o : Option (Number ℕ)) → score_noted o ≤ decimal_limit + 2
score_small none = omega arith
score_small (some n) =
    by_test (in_range n)
    (λ t. let d : n.decimals ≤ decimal_limit = leb-true n.decimals decimal_limit (and_left _ _ t) in rw t (omega arith))
    (λ t. rw t (omega arith))
