-- `stream::notice` meets its contract: words, a number and the end of the line, one behind the other. Assumes nothing.
use borrow.Author.Rules.{rules}
use Rattle.stream.proofs.Telling.{notice_fronts}
use Rattle.stream.proofs.notice.Goals as goal

pub returns : goal.returns
returns c =
    notice_fronts c.args.words.now c.args.number c.args.out.now c.requires.0 (search rules) c.put_decimal-a.ensures c.put.ensures
    (search rules)
