-- `held::zero_numbers` meets its contract. The loop: the numbers from i on are left. Assumes nothing.
use lib.IntN.{pos}
use lib.ListN.{replicate}
use Rattle.held.proofs.Places.{Matched}
use Rattle.held.proofs.zero_numbers.Given as goal

abbrev pub invariant-loop-i : goal.invariant-loop-i
invariant-loop-i l = Matched l.numbers (replicate l.n (pos 0)) l.at l.n l.i l.so
