-- `positions::labels::has_label` meets its contract. Assumes nothing.
use Rattle.scope.specs.Lists.{among, part}
use Rattle.scope.specs.Modifications.{name_of}
use Rattle.scope.specs.Layout.{part_in}
use Rattle.positions.proofs.Any.{Unfound}
use Rattle.positions.proofs.labels.has_label.Given as goal

abbrev pub invariant-loop-j : goal.invariant-loop-j
invariant-loop-j l = Unfound l.p l.j (λ ns i. among (part l.a l.m l.bytes) (name_of (part_in l.bytes ns l.k i)))
