-- `calls::held` meets its contract: 14 where the arrays hold no tables.
use Rattle.std.proofs.Common.{sym, ◌∙◌}
use Rattle.calls.proofs.Laws.{held_so, refused_14}
use Rattle.calls.proofs.held.Goals as goal

pub returns-then-are_tables : goal.returns-then-are_tables
returns-then-are_tables c = held_so _ _ c.in_ok-bytes.ensures (sym c.are_tables.ensures ∙ c.if-are_tables.true)

pub returns-else-are_tables : goal.returns-else-are_tables
returns-else-are_tables c = refused_14 _ _ c.in_ok-bytes.ensures (sym c.are_tables.ensures ∙ c.if-are_tables.false)
