-- `exchange::spare` meets its contract. The loop's invariant: on each position from the least of s on and below x where s may stand somebody other than `but` does.
use mathlib.Core.Path.{◌≡◌}
use mathlib.Core.Bool.{true}
use Prim.Native.Nat.{ℕ, ◌≤◌, ◌<◌}
use Rattle.placement_laws.specs.Standing.{place}
use Rattle.exchange.specs.Table.{may_in}
use Rattle.exchange.proofs.Search.spare.Given as goal

abbrev pub invariant-loop-x : goal.invariant-loop-x
invariant-loop-x l = (y : ℕ) → y < l.x → place l.self.lows l.s ≤ y → may_in l.self.tab.now l.s y ≡ true → (t : ℕ) × (t < l.self.k) × (t ≡ l.but → ⊥) × (place l.w.at t ≡ y)
