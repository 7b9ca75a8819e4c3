-- The loop: the first i bytes are copied. Assumes nothing.
use Rattle.copies.proofs.Copied.{Copied}
use Rattle.copies.proofs.copy.Given as goal

abbrev pub invariant-loop-i : goal.invariant-loop-i
invariant-loop-i l = Copied l.from l.initial.to l.i l.to
