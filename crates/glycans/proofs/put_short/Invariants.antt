-- Piece by piece from the right, until nothing is left. Assumes nothing.
use Rattle.std.proofs.Common.{◌-◌, length}
use Rattle.scope.specs.Lists.{part}
use Rattle.scope.specs.Glycans.{cuttings}
use Rattle.glycans.specs.Cut.{short_of}
use Rattle.glycans.proofs.Putting.{Putting, short_item}
use Rattle.glycans.proofs.put_short.Given as goal

abbrev pub invariant-loop-p : goal.invariant-loop-p
invariant-loop-p l = Putting short_item (short_of (cuttings (part l.from (l.to - l.from) l.line))) l.initial.out l.at l.rest l.out l.a

abbrev pub decreases-loop-p : goal.decreases-loop-p
decreases-loop-p l = length l.rest
