use mathlib.Core.Path.{◌≡◌}
use native.Mathlib.Omega.{arith}
use Rattle.exchange.proofs.Least.{settle_step, settle_end}
use Rattle.placement_laws.specs.Standing.{place}
use Rattle.exchange.proofs.Search.settle.Goals as goal

pub loop-i-preserved : goal.loop-i-preserved
loop-i-preserved c =
    let l = c.loop-i in
    let e = c.lowered-w.ensures in
    settle_step _ _ _ _ _ (place l.w.at) (place c.lowered-w.result.at) (omega arith) l.invariant e.0 e.1 e.2

pub returns : goal.returns
returns c =
    let l = c.loop-i in
    let e : l.i ≡ c.args.self.now.k = omega arith in
    settle_end _ _ _ _ (place l.w.at) (rw e at l.invariant)
