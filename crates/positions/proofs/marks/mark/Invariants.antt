-- `positions::marks::mark` meets its contract: each turn takes one position over from the row of free ones. Assumes nothing.
use Rattle.positions.specs.Marked.{held_in}
use Rattle.positions.proofs.Rows.{Spread}
use Rattle.positions.proofs.marks.mark.Given as goal

abbrev pub invariant-loop-x : goal.invariant-loop-x
invariant-loop-x l = Spread l.base l.a l.e (held_in l.free) l.x l.initial.tab l.tab
