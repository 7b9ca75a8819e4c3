-- `stream::take_in` meets its contract: the input is at its end, or a chunk is taken in. Assumes nothing.
use Rattle.stream.proofs.Turning.{turns_chunk, turns_closed}
use Rattle.stream.proofs.take_in.Goals as goal

pub close-requires : goal.close-requires
close-requires g c = (c.requires.2, c.requires.3)

pub returns-then-is_empty : goal.returns-then-is_empty
returns-then-is_empty g c = turns_closed c.close.ensures

pub drain-requires : goal.drain-requires
drain-requires g c = c.requires

pub returns-else-is_empty : goal.returns-else-is_empty
returns-else-is_empty g c =
    let d = c.drain.ensures in
    turns_chunk c.requires.0 d.0 d.1
