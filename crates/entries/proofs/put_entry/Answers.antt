-- `entries::put_entry` meets its contract: what is put into the part of the output that begins at the place is put into the output from there on. Assumes nothing.
use Rattle.figures.proofs.Storing.{puts_length}
use Rattle.entries.proofs.Texts.{puts_from}
use Rattle.entries.proofs.put_entry.Goals as goal

pub returns : goal.returns
returns c =
    let w = c.put_front-e.ensures.0 in
    let t = puts_from c.args.at c.args.out.now w.puts in
    (record { puts = t; out_long = puts_length t; bytes_same = w.bytes_same; numbers_same = w.numbers_same }, c.put_front-e.ensures.1)
