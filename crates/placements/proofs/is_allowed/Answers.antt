-- `placements::is_allowed` meets its contract: allowed is what has zeros from k on, further copies above the copies before them, and the first k standing where they
-- may, alone.
use mathlib.Core.Path.{◌≡◌}
use lib.ListN.{length}
use Rattle.scope.specs.Limits.{copy_limit}
use Rattle.exchange.proofs.Laws.{yes, no}
use Rattle.placements.proofs.Answers.{allowed_is, allowed_not, allowed_descends}
use borrow.Author.Rules.{rules}
use Rattle.placements.proofs.is_allowed.Goals as goal

pub in_order-requires : goal.in_order-requires
in_order-requires c = c.requires.few

pub returns-then-in_order : goal.returns-then-in_order
returns-then-in_order c =
    let long : length c.args.p.at ≡ copy_limit = search rules in
    let zeros = yes _ _ c.if-unused.true c.unused.ensures in
    let e = c.widened-w.ensures in
    allowed_is _ _ _ c.args.p.at c.requires c.stand.result long zeros
    (rw e at (yes _ _ c.if-in_order.true c.in_order.ensures)) (rw e at c.stand.ensures)

pub returns-else-in_order : goal.returns-else-in_order
returns-else-in_order c =
    allowed_descends _ _ _ c.args.p.at c.requires (rw c.widened-w.ensures at (no _ _ c.if-in_order.false c.in_order.ensures))

pub returns-else-unused : goal.returns-else-unused
returns-else-unused c = allowed_not _ _ _ c.args.p.at c.requires (no _ _ c.if-unused.false c.unused.ensures)
