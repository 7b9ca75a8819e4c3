-- `held::zero_bytes` meets its contract. The loop: the bytes from i on are left, and those before are zero exactly where the largest of them is. Assumes nothing.
use lib.Dec.{eqb}
use lib.ListN.{replicate}
use Rattle.held.proofs.Places.{Matched}
use Rattle.held.proofs.zero_bytes.Given as goal

abbrev pub invariant-loop-i : goal.invariant-loop-i
invariant-loop-i l = Matched l.bytes (replicate l.n 0) l.at l.n l.i (eqb l.top 0)
