-- A bracket is written where its rank is the one that is asked for. Assumes nothing.
use native.Mathlib.Omega.{arith}
use Rattle.figures.proofs.Storing.{puts_of, puts_within, puts_none}
use Rattle.writer.proofs.RunLaws.{ranked_yes, ranked_no}
use Rattle.writer.proofs.put_ranked.Goals as goal

pub returns-then-r-q : goal.returns-then-r-q
returns-then-r-q c =
    let a = c.args in
    puts_of (ranked_yes a.bytes.now a.numbers.now a.k a.shape c.requires.1 c.if-r-q.true) c.put_bracket.ensures

pub returns-else-r-q : goal.returns-else-r-q
returns-else-r-q c =
    let a = c.args in
    puts_of (ranked_no a.bytes.now a.numbers.now a.k a.shape c.requires.1 c.if-r-q.false) (puts_within (omega arith) (puts_none _ _))
