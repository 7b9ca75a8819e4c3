-- `entries::put_field` meets its contract: a space, and the number behind it. Assumes nothing.
use Rattle.figures.proofs.Storing.{puts_join}
use Rattle.entries.proofs.put_field.Goals as goal

pub returns : goal.returns
returns c = puts_join c.put-a.ensures c.put_decimal.ensures
