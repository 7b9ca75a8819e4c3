-- `placements::unused` meets its contract. The loop's invariant: the entries from k on and below s are zero.
use mathlib.Core.Path.{◌≡◌}
use Prim.Native.Nat.{ℕ, ◌≤◌, ◌<◌}
use Rattle.placement_laws.specs.Standing.{place}
use Rattle.placements.proofs.unused.Given as goal

abbrev pub invariant-loop-s : goal.invariant-loop-s
invariant-loop-s l = (t : ℕ) → t < l.s → l.k ≤ t → place l.p t ≡ 0
