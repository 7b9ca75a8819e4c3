-- The loop outside every pair: a law of Pairs for each place of its code. A pair is read by a call, and reading goes on behind it.
use Prim.Native.Nat.{◌-◌}
use lib.ListN.{length}
use Rattle.texts.proofs.Pairs.{Outside}
use Rattle.texts.proofs.text_end.Given as goal

abbrev pub invariant-loop-to : goal.invariant-loop-to
invariant-loop-to l = Outside l.line l.at l.hashes l.to l.deep

abbrev pub decreases-loop-to : goal.decreases-loop-to
decreases-loop-to l = length l.line - l.to
