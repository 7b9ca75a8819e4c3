-- `placements::narrowed` meets its contract: entries are put one by one over `Placement::none`. The loop's invariant: the first s are put, and zeros stand behind.
use mathlib.Core.Path.{◌≡◌}
use lib.ListN.{length}
use Rattle.scope.specs.Limits.{copy_limit}
use Rattle.placement_laws.specs.Standing.{place, Same}
use Rattle.placements.specs.Steps.{Zeros}
use Rattle.placements.proofs.narrowed.Given as goal

abbrev pub invariant-loop-s : goal.invariant-loop-s
invariant-loop-s l = (length l.p ≡ copy_limit) × Same l.s (place l.w.at) (place l.p) × Zeros l.s l.p
