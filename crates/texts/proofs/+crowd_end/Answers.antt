use mathlib.Core.Path.{sym, ◌∙◌}
use Rattle.std.proofs.lemmas.Result.{err_from_is_err_and}
use Rattle.texts.proofs.Levels.{crowd_starts, crowd_over, crowd_stuck, crowd_last, crowd_shut, crowd_open, crowd_behind, crowd_lost}
use Rattle.texts.proofs.+crowd_end.Goals as goal

pub loop-i-init : goal.loop-i-init
loop-i-init t c = crowd_starts _ _ _ _ c.requires c.inner_end-i.ensures

pub returns-then-n-eq0 : goal.returns-then-n-eq0
returns-then-n-eq0 t c = crowd_last _ _ _ _ _ _ _ c.loop-i.invariant c.loop-i-test.true c.if-b-next.true c.if-n-eq0.true

pub loop-i-preserved-then-b-next : goal.loop-i-preserved-then-b-next
loop-i-preserved-then-b-next t c =
    crowd_shut _ _ _ _ _ _ _ c.loop-i.invariant c.loop-i-test.true c.if-b-next.true c.if-n-eq0.false _ c.last_of-next.ensures _ c.inner_end-i-then-b-next.ensures

pub returns-then-not-is_opening : goal.returns-then-not-is_opening
returns-then-not-is_opening t c =
    crowd_stuck _ _ _ _ _ _ _ c.loop-i.invariant c.loop-i-test.true (sym c.is_opening.ensures ∙ c.if-not-is_opening.true) c.if-b-next.false

pub loop-i-preserved-then-n-lt-LINE : goal.loop-i-preserved-then-n-lt-LINE
loop-i-preserved-then-n-lt-LINE t c =
    crowd_open _ _ _ _ _ _ _ c.loop-i.invariant c.loop-i-test.true (sym c.is_opening.ensures ∙ c.if-not-is_opening.false) _
    c.closer_of-next.ensures.0 c.if-n-lt-LINE.true c.closer_of-next.ensures.1 _ c.with_last.ensures _ c.inner_end-i-then-n-lt-LINE.ensures

pub returns-in_err-end : goal.returns-in_err-end
returns-in_err-end t c =
    let p = err_from_is_err_and c.from_residual.result c.from_residual.ensures.1 in
    rw (p.1, p.2)
    (crowd_lost _ _ _ _ _ _ _ c.loop-i.invariant c.loop-i-test.true (sym c.is_opening.ensures ∙ c.if-not-is_opening.false) _
    c.closer_of.ensures.0 _ c.in_err-end.ensures)

pub loop-i-preserved : goal.loop-i-preserved
loop-i-preserved t c =
    crowd_behind _ _ _ _ _ _ _ c.loop-i.invariant c.loop-i-test.true (sym c.is_opening.ensures ∙ c.if-not-is_opening.false) _
    c.closer_of.ensures.0 _ c.in_ok-end.ensures _ c.inner_end-i-else-n-lt-LINE.ensures

pub returns : goal.returns
returns t c = crowd_over _ _ _ _ _ _ _ c.loop-i.invariant c.loop-i-test.false
