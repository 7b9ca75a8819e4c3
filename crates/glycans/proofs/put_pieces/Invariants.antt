-- Piece by piece from the right, two bytes each, until nothing is left. Assumes nothing.
use Rattle.std.proofs.Common.{length}
use Rattle.scope.specs.Glycans.{cuttings}
use Rattle.glycans.specs.Pieces.{piece_bytes, pieces_of}
use Rattle.glycans.proofs.Putting.{Putting}
use Rattle.glycans.proofs.put_pieces.Given as goal

abbrev pub invariant-loop-rest : goal.invariant-loop-rest
invariant-loop-rest l = Putting piece_bytes (pieces_of (cuttings l.text)) l.initial.out l.n l.rest l.out l.a

abbrev pub decreases-loop-rest : goal.decreases-loop-rest
decreases-loop-rest l = length l.rest
