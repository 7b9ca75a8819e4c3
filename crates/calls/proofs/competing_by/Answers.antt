-- `calls::competing_by` meets its contract: what the table has too few of, the floaters have, since the table holds what floats.
use Rattle.calls.proofs.Laws.{floats_as}
use Rattle.calls.proofs.WhyLaws.{competes_in}
use Rattle.calls.proofs.competing_by.Goals as goal

pub returns : goal.returns
returns c = competes_in _ c.find_floaters-f.result.copy _ (floats_as c.find_floaters-f.ensures c.fill_table.ensures) c.competing.ensures
