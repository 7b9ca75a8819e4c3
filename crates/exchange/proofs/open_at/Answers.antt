-- `exchange::open_at` meets its contract: s may stand at x, and the first other that stands there is none.
use borrow.Author.Rules.{rules}
use mathlib.Core.Path.{◌≡◌, sym, ◌∙◌}
use Rattle.std.specs.Prelude.{is_none}
use Rattle.exchange.proofs.Laws.{open_law, open_not}
use Rattle.exchange.proofs.open_at.Goals as goal

pub returns-then-may : goal.returns-then-may
returns-then-may c =
    let a = c.args in
    let e : c.is_none.result ≡ is_none c.owner.result = search rules in
    rw e (open_law a.tab.now a.w.now.at a.k a.but a.s a.x c.owner.result (sym c.may.ensures ∙ c.if-may.true) c.owner.ensures)

pub returns-else-may : goal.returns-else-may
returns-else-may c =
    let a = c.args in
    rw c.if-may.false (open_not a.tab.now a.w.now.at a.k a.but a.s a.x (sym c.may.ensures ∙ c.if-may.false))
