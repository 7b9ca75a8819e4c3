-- `exchange::shift` meets its contract. The loop's invariant: the a-th is to take x, where nobody stands now, and those from the first to the a-th are where
-- they were. The way leads down to the first, since each one's parent stands before it.
use mathlib.Core.Path.{◌≡◌}
use mathlib.Core.Bool.{Bool}
use Prim.Native.Nat.{ℕ, ◌<◌}
use lib.ListN.{length}
use Rattle.scope.specs.Limits.{copy_limit}
use Rattle.placement_laws.specs.Where.{Grown, Shifting}
use Rattle.placement_laws.specs.Standing.{place}
use Rattle.exchange.proofs.Tree.shift.Given as goal

abbrev pub invariant-loop-a : goal.invariant-loop-a
invariant-loop-a l = (length l.w.at ≡ copy_limit) × (l.a < l.self.n)
    × ((ok : ℕ → ℕ → Bool) (k f j : ℕ) → Grown ok k f j (place l.initial.w.at) l.self.n (place l.self.order) (place l.self.parent)
    → Shifting ok k f j (place l.initial.w.at) l.self.n (place l.self.order) l.h l.x0 (place l.initial.w.at)
    → Shifting ok k f j (place l.initial.w.at) l.self.n (place l.self.order) l.a l.x (place l.w.at))

abbrev pub decreases-loop-a : goal.decreases-loop-a
decreases-loop-a l = l.a
