-- `positions::marks::strike_named` meets its contract. The loop: of the positions before x, each that is named is struck out. Assumes nothing.
use Rattle.positions.proofs.Rows.{Striking}
use Rattle.positions.proofs.marks.strike_named.Given as goal

abbrev pub invariant-loop-x : goal.invariant-loop-x
invariant-loop-x l = Striking l.bytes l.k l.end l.x l.initial.free l.free
