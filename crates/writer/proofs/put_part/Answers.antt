-- Its key, its value and its label, one behind the other. Assumes nothing.
use Rattle.figures.proofs.Storing.{puts_of, puts_join}
use Rattle.writer.proofs.PartTexts.{part_text_lem}
use Rattle.writer.proofs.put_part.Goals as goal

pub returns : goal.returns
returns c =
    let a = c.args in
    puts_of (part_text_lem a.bytes.now a.numbers.now a.k a.j c.key-c.ensures.0)
    (puts_join c.put_key-a.ensures (puts_join c.put_value-e.ensures c.put_label.ensures))
