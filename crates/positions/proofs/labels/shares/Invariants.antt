-- `positions::labels::shares` meets its contract. Assumes nothing.
use Rattle.scope.specs.Modifications.{name_of, names_of}
use Rattle.scope.specs.Lists.{shared}
use Rattle.scope.specs.Layout.{part_in, bracket_in}
use Rattle.positions.proofs.Any.{Unfound}
use Rattle.positions.proofs.labels.shares.Given as goal

abbrev pub invariant-loop-j : goal.invariant-loop-j
invariant-loop-j l = Unfound l.p l.j (λ ns i. shared (name_of (part_in l.bytes ns l.k i)) (names_of (bracket_in l.bytes ns l.r)))
