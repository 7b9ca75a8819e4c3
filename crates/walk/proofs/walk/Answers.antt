use Rattle.std.proofs.lemmas.Result.{err_from_is_err_and}
use native.Mathlib.Omega.{arith}
use Rattle.walk.proofs.Further.{walk_starts, step_stuck, step_more}
use Rattle.walk.proofs.walk.Goals as goal

pub loop-s-init : goal.loop-s-init
loop-s-init c = walk_starts _ _ _ c.first_stage-s.ensures c.sized.ensures

pub step_from-requires : goal.step_from-requires
step_from-requires c = (c.requires, c.loop-s-test.true, c.loop-s.invariant)

pub returns-in_err-s : goal.returns-in_err-s
returns-in_err-s c =
    let p = err_from_is_err_and c.from_residual.result c.from_residual.ensures.1 in
    rw (p.1, p.2) (step_stuck _ c.loop-s.s _ c.step_from.ensures c.in_err-s.was)

pub loop-s-smaller : goal.loop-s-smaller
loop-s-smaller c =
    let m = step_more _ c.loop-s.s _ c.step_from.ensures c.in_ok-s.was in
    omega (arith, m.1, c.loop-s-test.true)

pub loop-s-preserved : goal.loop-s-preserved
loop-s-preserved c = (step_more _ c.loop-s.s _ c.step_from.ensures c.in_ok-s.was).0

pub line_ended-requires : goal.line_ended-requires
line_ended-requires c = c.loop-s-test.false

pub returns : goal.returns
returns c = c.line_ended.ensures _ c.loop-s.invariant
