-- `calls::sized` meets its contract: 13 where an area is too short, else the front of both.
use Rattle.std.proofs.Common.{rules}
use Rattle.calls.proofs.Laws.{short_numbers, sized_of}
use Rattle.calls.proofs.sized.Goals as goal

pub returns-in_default-first_chunk : goal.returns-in_default-first_chunk
returns-in_default-first_chunk c = short_numbers c.args.bytes.now c.args.numbers.now (search rules) (search rules)

pub returns : goal.returns
returns c = sized_of (search rules) (search rules) (search rules) (search rules)
