-- The proof of the cycle of calls {crowd_end}. The measure is the number of bytes left. Each return and each turn cites the law of its arm. Assumes nothing.
use Prim.Native.Nat.{◌-◌}
use lib.ListN.{length}
use Rattle.texts.proofs.Levels.{Crowd}
use Rattle.texts.proofs.+crowd_end.Given as goal

abbrev pub decreases-crowd_end : goal.decreases-crowd_end
decreases-crowd_end l = length l.line.now - l.at

abbrev pub invariant-loop-i : goal.invariant-loop-i
invariant-loop-i l = Crowd l.line l.at l.closer l.owed l.n l.next l.i

abbrev pub decreases-loop-i : goal.decreases-loop-i
decreases-loop-i l = length l.line - l.i
