-- The invariant: the first j parts are written. Assumes nothing.
use Prim.Native.Nat.{◌*◌}
use Rattle.scope.specs.Canonical.{parts_text}
use Rattle.scope.specs.Lists.{tabled}
use Rattle.scope.specs.Layout.{part_in}
use Rattle.figures.specs.Written.{Puts}
use Rattle.writer.specs.Written.{next_most}
use Rattle.writer.proofs.put_parts.Given as goal

abbrev pub invariant-loop-j : goal.invariant-loop-j
invariant-loop-j l = Puts (next_most * l.j) l.initial.out l.at (parts_text (tabled (part_in l.bytes l.numbers l.k) 0 l.j)) l.out l.a
