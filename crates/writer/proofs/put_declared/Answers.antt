-- `<`, the bracket, `@`, its places and `>`, one behind the other. Assumes nothing.
use Rattle.scope.specs.Layout.{bracket_in}
use Rattle.figures.proofs.Storing.{puts_join}
use Rattle.writer.proofs.put_declared.Goals as goal

pub returns : goal.returns
unfolding bracket_in
returns c =
    puts_join c.put-a.ensures
    (puts_join c.put_between-b.ensures (puts_join c.put-c.ensures (puts_join c.put_places-e.ensures c.put.ensures)))
