use mathlib.Core.Path.{sym, ◌∙◌}
use Rattle.std.proofs.lemmas.Result.{err_from_is_err_and}
use Rattle.texts.proofs.Owed.{inside_starts, pauses}
use Rattle.texts.proofs.Levels.{Level, closed_deep, pair_over, pair_stuck, pair_last, pair_behind, pair_lost}
use Rattle.texts.proofs.+pair_end.Goals as goal

pub returns-then-level-ge-LEVELS : goal.returns-then-level-ge-LEVELS
returns-then-level-ge-LEVELS t c = closed_deep _ _ _ _ c.if-level-ge-LEVELS.true _ _ c.or.ensures _ c.crowd_end.ensures

pub loop-i-init : goal.loop-i-init
loop-i-init t c = pauses (Level _) _ _ _ _ _ _ _ _ _ (inside_starts (Level _) _ _ _ _ c.requires.0) c.inner_end-i.ensures

pub returns-then-b-closer : goal.returns-then-b-closer
returns-then-b-closer t c = pair_last _ _ _ _ c.if-level-ge-LEVELS.false _ _ _ c.loop-i.invariant c.loop-i-test.true c.if-b-closer.true

pub returns-then-not-is_opening : goal.returns-then-not-is_opening
returns-then-not-is_opening t c =
    pair_stuck _ _ _ _ c.if-level-ge-LEVELS.false _ _ _ c.loop-i.invariant c.loop-i-test.true
    (sym c.is_opening.ensures ∙ c.if-not-is_opening.true) c.if-b-closer.false

pub returns-in_err-end : goal.returns-in_err-end
returns-in_err-end t c =
    let p = err_from_is_err_and c.from_residual.result c.from_residual.ensures.1 in
    rw (p.1, p.2)
    (pair_lost _ _ _ _ c.if-level-ge-LEVELS.false _ _ _ c.loop-i.invariant c.loop-i-test.true
    (sym c.is_opening.ensures ∙ c.if-not-is_opening.false) _ c.closer_of.ensures.0 _ _ c.in_err-end.ensures)

pub loop-i-preserved : goal.loop-i-preserved
loop-i-preserved t c =
    pair_behind _ _ _ _ c.if-level-ge-LEVELS.false _ _ _ c.loop-i.invariant c.loop-i-test.true
    (sym c.is_opening.ensures ∙ c.if-not-is_opening.false) _ c.closer_of.ensures.0 _ _ c.in_ok-end.ensures
    _ c.inner_end-i-in-loop-i.ensures

pub returns : goal.returns
returns t c = pair_over _ _ _ _ c.if-level-ge-LEVELS.false _ _ _ c.loop-i.invariant c.loop-i-test.false
