-- `chunks::skip_plain` meets its contract. The loop: no byte 10 stands before i. Assumes nothing.
use Rattle.std.proofs.Common.{◌-◌, length}
use Rattle.chunks.specs.Cuts.{Passed}
use Rattle.chunks.proofs.skip_plain.Given as goal

abbrev pub invariant-loop-i : goal.invariant-loop-i
invariant-loop-i l = Passed l.chunk l.from l.i

abbrev pub decreases-loop-i : goal.decreases-loop-i
decreases-loop-i l = length l.chunk - l.i
