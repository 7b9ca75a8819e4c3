use mathlib.Core.Path.{sym, ◌∙◌}
use Rattle.std.proofs.lemmas.Result.{err_from_is_err_and}
use Rattle.texts.proofs.Pairs.{text_starts, text_over, text_ends, text_behind, text_lost}
use Rattle.texts.proofs.text_end.Goals as goal

pub loop-to-init : goal.loop-to-init
loop-to-init c = text_starts _ _ _ _ c.outer_end-to.ensures

pub loop-to-preserved : goal.loop-to-preserved
loop-to-preserved c =
    text_behind _ _ _ _ _ c.loop-to.invariant c.loop-to-test.true (sym c.is_opening.ensures ∙ c.if-is_opening.true) _
    c.closer_of.ensures.0 _ _ c.in_ok-end.ensures _ c.outer_end-to-in-loop-to.ensures

pub returns-in_err-end : goal.returns-in_err-end
returns-in_err-end c =
    let p = err_from_is_err_and c.from_residual.result c.from_residual.ensures.1 in
    rw (p.1, p.2)
    (text_lost _ _ _ _ _ c.loop-to.invariant c.loop-to-test.true (sym c.is_opening.ensures ∙ c.if-is_opening.true) _
    c.closer_of.ensures.0 _ _ c.in_err-end.ensures)

pub returns-else-is_opening : goal.returns-else-is_opening
returns-else-is_opening c = text_ends _ _ _ _ _ c.loop-to.invariant c.loop-to-test.true (sym c.is_opening.ensures ∙ c.if-is_opening.false)

pub returns-after-loop-to : goal.returns-after-loop-to
returns-after-loop-to c = text_over _ _ _ _ _ c.loop-to.invariant c.loop-to-test.false
