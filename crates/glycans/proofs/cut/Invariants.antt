-- Piece by piece from the right, until no piece ends what is left. Assumes nothing.
use Rattle.std.proofs.Common.{◌-◌, length}
use Rattle.scope.specs.Lists.{part}
use Rattle.glycans.proofs.Ways.{SoFar}
use Rattle.glycans.proofs.cut.Given as goal

abbrev pub invariant-loop-rest : goal.invariant-loop-rest
invariant-loop-rest l = SoFar (part l.from (l.to - l.from) l.line) l.rest l.size l.mass l.pieces

abbrev pub decreases-loop-rest : goal.decreases-loop-rest
decreases-loop-rest l = length l.rest
