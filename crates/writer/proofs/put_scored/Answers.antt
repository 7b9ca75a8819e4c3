-- Nothing where there is no score, else the score between its round brackets. Assumes nothing.
use mathlib.Core.Path.{◌∙◌}
use native.Mathlib.Omega.{arith}
use mir.Syntax.{w64}
use mir.Facts.{to_z-of_z}
use borrow.Author.Rules.{sfits_of}
use Rattle.figures.proofs.Storing.{puts_none, puts_of, puts_join, puts_within}
use Rattle.writer.proofs.PartTexts.{scored_none, scored_some}
use Rattle.writer.proofs.put_scored.Goals as goal

pub returns-then-c-eq0 : goal.returns-then-c-eq0
returns-then-c-eq0 c =
    let a = c.args in
    puts_of (scored_none a.bytes.now a.numbers.now a.k c.score-c.ensures.0 c.if-c-eq0.true) (puts_within (omega arith) (puts_none _ _))

pub returns : goal.returns
returns c =
    let a = c.args in
    let read = to_z-of_z {w = w64} (sfits_of c.score_number-m.type_inv) ∙ c.score_number-m.ensures in
    puts_of (scored_some a.bytes.now a.numbers.now a.k c.score-c.ensures.0 c.if-c-eq0.false read)
    (puts_join c.put-a.ensures (puts_join c.put_number-e.ensures c.put.ensures))
