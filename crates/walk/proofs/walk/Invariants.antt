-- A line, stage by stage: behind each step, what is known of what is read so far; the bytes left get fewer.
use Prim.Native.Nat.{◌-◌}
use lib.ListN.{length}
use Rattle.walk.specs.Stages.{Upto}
use Rattle.walk.proofs.walk.Given as goal

abbrev pub invariant-loop-s : goal.invariant-loop-s
invariant-loop-s l = Upto l.line l.s l.sheet

abbrev pub decreases-loop-s : goal.decreases-loop-s
decreases-loop-s l = length l.line - l.s.at
