-- The loop over places: those before the place at i are read, and one more is a law of Lists.
use Prim.Native.Nat.{◌+◌, ◌-◌}
use lib.ListN.{length}
use Rattle.sites.proofs.Lists.{SoFar}
use Rattle.sites.proofs.list_at.Given as goal

abbrev pub invariant-loop-next : goal.invariant-loop-next
invariant-loop-next l = SoFar l.line l.at l.i l.many l.over

abbrev pub decreases-loop-next : goal.decreases-loop-next
decreases-loop-next l = length l.line + 1 - l.i
