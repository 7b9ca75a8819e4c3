-- `calls::next_by` meets its contract: a request by the table is a request, since the table holds what floats.
use Rattle.std.proofs.Common.{rules}
use Rattle.calls.proofs.Laws.{floats_orderly}
use Rattle.calls.proofs.next_by.Goals as goal

pub request-requires : goal.request-requires
request-requires c = (search rules, floats_orderly c.find_floaters-f.ensures c.fill_table.ensures)
