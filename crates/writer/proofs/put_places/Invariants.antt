-- The invariant: the first j places are written. Assumes nothing.
use Prim.Native.Nat.{◌*◌}
use Rattle.scope.specs.Places.{places_text}
use Rattle.scope.specs.Lists.{tabled}
use Rattle.scope.specs.Layout.{place_in}
use Rattle.figures.specs.Written.{Puts}
use Rattle.writer.specs.Written.{next_place_most}
use Rattle.writer.proofs.put_places.Given as goal

abbrev pub invariant-loop-j : goal.invariant-loop-j
invariant-loop-j l = Puts (next_place_most * l.j) l.initial.out l.at (places_text (tabled (place_in l.bytes l.k) 0 l.j)) l.out l.a
