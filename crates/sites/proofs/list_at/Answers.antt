use mathlib.Core.Path.{sym, ◌∙◌}
use native.Mathlib.Omega.{arith}
use borrow.Author.Rules.{rules}
use Rattle.std.proofs.lemmas.Result.{err_from_is_err_and}
use Rattle.sites.proofs.Lists.{so_far_none, place_read, list_stuck, list_ends, list_more}
use Rattle.sites.proofs.list_at.Goals as goal

pub loop-next-init : goal.loop-next-init
loop-next-init c = so_far_none _ _ (search rules)

pub place_at-requires : goal.place_at-requires
place_at-requires c = c.loop-next.invariant.within

pub returns-in_err-next : goal.returns-in_err-next
returns-in_err-next c =
    let p = err_from_is_err_and c.from_residual.result c.from_residual.ensures.1 in
    rw (p.1, p.2) (list_stuck _ _ _ _ _ c.loop-next.invariant _ c.in_err-next.ensures)

pub returns-then-not-more_at : goal.returns-then-not-more_at
returns-then-not-more_at c =
    list_ends _ _ _ _ _ c.loop-next.invariant _ (place_read _ _ _ c.in_ok-next.ensures) _ c.first_over-over.ensures (sym c.more_at.ensures ∙ c.if-not-more_at.true)

pub loop-next-smaller : goal.loop-next-smaller
loop-next-smaller c =
    let q = place_read _ _ _ c.in_ok-next.ensures in
    omega (arith, q.past, q.within)

pub loop-next-preserved : goal.loop-next-preserved
loop-next-preserved c =
    list_more _ _ _ _ _ c.loop-next.invariant _ (place_read _ _ _ c.in_ok-next.ensures) _ c.first_over-over.ensures (sym c.more_at.ensures ∙ c.if-not-more_at.false)
