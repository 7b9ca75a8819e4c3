-- `entries::put_front` meets its contract: the number, the report and byte 10, one behind the other; whether the line is refused, the report says. Assumes nothing.
use Rattle.figures.proofs.Storing.{puts_of, puts_join, puts_length}
use Rattle.entries.proofs.Texts.{entry_text}
use Rattle.entries.proofs.put_front.Goals as goal

pub returns : goal.returns
returns c =
    let w = c.put_report-e.ensures.0 in
    let t = puts_of (entry_text _ _) (puts_join c.put_decimal-a.ensures (puts_join w.puts c.put.ensures)) in
    (record { puts = t; out_long = puts_length t; bytes_same = w.bytes_same; numbers_same = w.numbers_same }, c.put_report-e.ensures.1)
