-- `exchange::owner` meets its contract. The loop's invariant: nobody below t, other than `but`, stands at x.
use mathlib.Core.Path.{◌≡◌}
use Prim.Native.Nat.{ℕ, ◌<◌}
use Rattle.placement_laws.specs.Standing.{place}
use Rattle.exchange.proofs.owner.Given as goal

abbrev pub invariant-loop-t : goal.invariant-loop-t
invariant-loop-t l = (u : ℕ) → u < l.t → (u ≡ l.but → ⊥) → place l.w.at u ≡ l.x → ⊥
