-- `rows::first_row` meets its contract: none of the rows before `index` is of the floater.
use Rattle.rows.proofs.Firsts.{Seeking}
use Rattle.rows.proofs.first_row.Given as goal

abbrev pub invariant-loop-index : goal.invariant-loop-index
invariant-loop-index l = Seeking l.some l.floater l.index
