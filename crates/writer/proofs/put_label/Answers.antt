-- Nothing where there is no label, else `#`, the label behind the text, and its score. Assumes nothing.
use Prim.Native.Nat.{◌+◌}
use native.Mathlib.Omega.{arith}
use Rattle.scope.specs.Limits.{label_limit}
use Rattle.figures.proofs.Storing.{puts_none, puts_of, puts_join, puts_within}
use Rattle.writer.proofs.PartTexts.{puts_part, label_none, label_some}
use Rattle.writer.proofs.put_label.Goals as goal

pub returns-then-n-eq0 : goal.returns-then-n-eq0
returns-then-n-eq0 c =
    let a = c.args in
    puts_of (label_none a.bytes.now a.numbers.now a.k a.j c.label_length-n.ensures.0 c.if-n-eq0.true) (puts_within (omega arith) (puts_none _ _))

pub returns : goal.returns
returns c =
    let a = c.args in
    let long = c.label_length-n.ensures.0 in
    puts_of
    (label_some a.bytes.now a.numbers.now a.k a.j long c.if-n-eq0.false c.text_length-t.ensures.0 c.text_from-from.ensures)
    (puts_join c.put-a.ensures (puts_join (puts_part a.bytes.now (c.text_from-from.result + c.text_length-t.result) c.label_length-n.result {b = label_limit} (omega (arith, long, c.requires.0.bounds.short_label)) c.word-e.ensures) c.put_scored.ensures))
