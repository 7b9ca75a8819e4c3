-- `placements::stand` meets its contract. The loop's invariant: each below s stands where it may, alone.
use mathlib.Core.Path.{◌≡◌}
use mathlib.Core.Bool.{true}
use Prim.Native.Nat.{ℕ, ◌<◌}
use Rattle.placement_laws.specs.Standing.{place}
use Rattle.exchange.specs.Table.{may_in}
use Rattle.placements.proofs.stand.Given as goal

abbrev pub invariant-loop-s : goal.invariant-loop-s
invariant-loop-s l = (u : ℕ) → u < l.s → (may_in l.tab u (place l.w.at u) ≡ true) × ((t : ℕ) → t < l.k → place l.w.at u ≡ place l.w.at t → u ≡ t)
