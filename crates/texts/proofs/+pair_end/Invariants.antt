-- The proof of the cycle of calls {pair_end}. The measure is the number of bytes left. Each return and each turn cites the law of its arm. Assumes nothing.
use Prim.Native.Nat.{◌-◌}
use lib.ListN.{length}
use Rattle.texts.proofs.Levels.{Alone}
use Rattle.texts.proofs.+pair_end.Given as goal

abbrev pub decreases-pair_end : goal.decreases-pair_end
decreases-pair_end l = length l.line.now - l.at

abbrev pub invariant-loop-i : goal.invariant-loop-i
invariant-loop-i l = Alone l.line l.at l.closer l.level l.initial.deep l.i l.deep

abbrev pub decreases-loop-i : goal.decreases-loop-i
decreases-loop-i l = length l.line - l.i
