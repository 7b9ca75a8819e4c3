-- `positions::fill_table` meets its contract: what is struck out is known before the loop, and each turn fills one row. Assumes nothing.
use Rattle.positions.proofs.Whole.{Filling}
use Rattle.positions.proofs.fill_table.Given as goal

abbrev pub invariant-loop-g : goal.invariant-loop-g
invariant-loop-g l = Filling l.bytes l.numbers l.fn.f.index l.fn.f.count l.g l.initial.tab l.tab
