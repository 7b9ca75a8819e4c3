use mathlib.Core.Path.{◌≡◌}
use Prim.Native.Nat.{◌<◌}
use native.Mathlib.Omega.{arith}
use lib.ListN.{length-set}
use Rattle.scope.specs.Limits.{copy_limit}
use Rattle.placement_laws.specs.Exchange.{shift_step, shift_end}
use Rattle.placement_laws.specs.Standing.{place}
use Rattle.exchange.proofs.Laws.{put_set}
use Rattle.exchange.proofs.Tree.shift.Goals as goal

pub loop-a-preserved : goal.loop-a-preserved
loop-a-preserved c =
    let nearer : place c.args.self.now.parent c.loop-a.a < c.loop-a.a = c.requires.back c.loop-a.a c.loop-a-test.true c.loop-a.invariant.1 in
    let node-high : place c.args.self.now.order c.loop-a.a < copy_limit = c.requires.high c.loop-a.a c.loop-a.invariant.1 in
    let l = c.loop-a in (
      simp length-set l.invariant.0,
      omega (arith, nearer, l.invariant.1),
      λ ok k f j g s.
          shift_step ok k f j _ _ _ _ l.a l.x (place l.w.at) _ g (l.invariant.2 ok k f j g s) c.loop-a-test.true
          (put_set l.w.at _ _ (rw l.invariant.0 node-high)),
    )

pub returns : goal.returns
returns c =
    let first-high : place c.args.self.now.order 0 < copy_limit = c.requires.high 0 (omega (arith, c.requires.inside)) in
    λ ok k f j g s.
    let l = c.loop-a in
    let e : l.a ≡ 0 = omega arith in
    shift_end ok k f j _ _ _ _ l.x (place l.w.at) _ g (rw e at (l.invariant.2 ok k f j g s)) (put_set l.w.at _ _ (rw l.invariant.0 first-high))
