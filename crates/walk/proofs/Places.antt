-- A place that stands before another is small, where that is.
use Prim.Native.Nat.{ℕ, ◌≤◌}
use native.Mathlib.Omega.{arith}
use Rattle.std.specs.Prelude.{Option, Some, None}
use Rattle.scope.specs.Bytes.{wide_limit}
use Rattle.sites.specs.Says.{Before}
use Rattle.dues.specs.Found.{PlaceFits}

pub before_fits : (o : Option ℕ) (n : ℕ) → Before o n → n ≤ wide_limit → PlaceFits o
before_fits None n h r = tt
before_fits (Some i) n h r = omega arith
