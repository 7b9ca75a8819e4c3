-- `placements::in_order` meets its contract. The loop's invariant: each further copy below s stands above the copy before it.
use mathlib.Core.Path.{◌≡◌}
use mathlib.Core.Bool.{true}
use Prim.Native.Nat.{ℕ, ◌<◌, ◌-◌}
use Rattle.placement_laws.specs.Standing.{place}
use Rattle.exchange.specs.Table.{mark_in}
use Rattle.placements.proofs.in_order.Given as goal

abbrev pub invariant-loop-s : goal.invariant-loop-s
invariant-loop-s l = (t : ℕ) → t < l.s → 0 < t → mark_in l.copy t ≡ true → place l.w.at (t - 1) < place l.w.at t
