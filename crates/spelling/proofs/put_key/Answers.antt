-- Nothing where there is no key; else the letters of its word, and a colon. Assumes nothing.
use Rattle.std.proofs.Common.{ap, arith, rules}
use Rattle.scope.specs.Keys.{written}
use Rattle.figures.proofs.Storing.{puts_of}
use Rattle.spelling.proofs.Spelled.{few, puts_no_key, puts_key}
use Rattle.spelling.proofs.put_key.Goals as goal

pub returns-then-is_empty : goal.returns-then-is_empty
returns-then-is_empty c = puts_of (ap written c.key_of.ensures) (puts_no_key c.key_of.result c.word_of-w.ensures (search rules))

pub word-a-requires : goal.word-a-requires
word-a-requires c = omega (arith, c.requires, few c.key_of.result c.word_of-w.ensures)

pub put-requires : goal.put-requires
put-requires c = omega (arith, c.word-a.ensures.near, c.requires, few c.key_of.result c.word_of-w.ensures)

pub returns-else-is_empty : goal.returns-else-is_empty
returns-else-is_empty c =
    puts_of (ap written c.key_of.ensures) (puts_key c.key_of.result c.word_of-w.ensures (λ e. absurd (search rules)) c.word-a.ensures c.put.ensures)
