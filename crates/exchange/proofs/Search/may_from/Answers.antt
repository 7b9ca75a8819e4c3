-- `exchange::may_from` meets its contract: below the least position of s it may not stand; from there on the table decides.
use mathlib.Core.Path.{sym, ◌∙◌}
use borrow.Author.Tests.{lt-leb}
use Rattle.exchange.proofs.Laws.{from_low, from_high}
use Rattle.exchange.proofs.Search.may_from.Goals as goal

pub returns-then-self-s : goal.returns-then-self-s
returns-then-self-s c = c.may.ensures ∙ sym (from_high c.args.self.now.tab.now c.args.self.now.lows c.args.s c.args.x c.if-self-s.true)

pub returns-else-self-s : goal.returns-else-self-s
returns-else-self-s c = lt-leb _ _ c.if-self-s.false ∙ sym (from_low c.args.self.now.tab.now c.args.self.now.lows c.args.s c.args.x c.if-self-s.false)
