-- `exchange::first_of` meets its contract. The loop's invariant: s may stand at no position below x.
use mathlib.Core.Path.{◌≡◌}
use mathlib.Core.Bool.{true}
use Prim.Native.Nat.{ℕ, ◌<◌}
use Rattle.exchange.specs.Table.{may_in}
use Rattle.exchange.proofs.first_of.Given as goal

abbrev pub invariant-loop-x : goal.invariant-loop-x
invariant-loop-x l = (y : ℕ) → y < l.x → may_in l.tab l.s y ≡ true → ⊥
