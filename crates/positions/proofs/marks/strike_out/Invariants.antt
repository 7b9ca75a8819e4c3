-- `positions::marks::strike_out` meets its contract. Assumes nothing.
use Rattle.positions.specs.Marked.{always, placed_at}
use Rattle.positions.proofs.Rows.{MarksPassed}
use Rattle.positions.proofs.marks.strike_out.Given as goal

abbrev pub invariant-loop-k : goal.invariant-loop-k
invariant-loop-k l = MarksPassed 0 (always 0) l.b l.k (placed_at l.bytes) l.initial.free l.free
