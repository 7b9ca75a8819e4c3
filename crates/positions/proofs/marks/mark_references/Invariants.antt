-- `positions::marks::mark_references` meets its contract. Assumes nothing.
use Rattle.positions.specs.Marked.{held_in, refers_at}
use Rattle.positions.proofs.Rows.{MarksPassed}
use Rattle.positions.proofs.marks.mark_references.Given as goal

abbrev pub invariant-loop-r : goal.invariant-loop-r
invariant-loop-r l = MarksPassed l.base (held_in l.free) l.b l.r (λ ns j. refers_at l.bytes ns l.k j) l.initial.tab l.tab
