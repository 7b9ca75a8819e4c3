-- `positions::marks::fill_row` meets its contract: a cleared row is marked where it is free. Assumes nothing.
use Rattle.positions.proofs.Rows.{row_is}
use Rattle.positions.proofs.marks.fill_row.Goals as goal

pub returns : goal.returns
returns c = λ ns. row_is c.args.bytes.now ns c.args.free.now (c.requires.2 ns) c.clear_row.ensures (c.mark_all.ensures ns)
