-- The parts between two bytes. Assumes nothing.
use Rattle.scope.specs.Layout.{bracket_in}
use Rattle.figures.proofs.Storing.{puts_join}
use Rattle.writer.proofs.put_between.Goals as goal

pub returns : goal.returns
unfolding bracket_in
returns c = puts_join c.put-a.ensures (puts_join c.put_parts-e.ensures c.put.ensures)
