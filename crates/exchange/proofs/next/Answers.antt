use mathlib.Core.Path.{◌≡◌, refl}
use Prim.Native.Nat.{◌<◌, ◌+◌, ◌-◌}
use native.Mathlib.Omega.{arith}
use Rattle.scope.specs.Limits.{position_limit}
use Rattle.placement_laws.specs.Standing.{place}
use Rattle.exchange.specs.Table.{may_in, mark_in}
use Rattle.exchange.proofs.Least.{settled_of, Nothing, nothing_step, next_found}
use Rattle.exchange.proofs.Laws.{full_small}
use Rattle.exchange.proofs.Runs.{all_but, above_all, least_good, least_above, least_first}
use Rattle.exchange.proofs.next.Goals as goal

-- nothing comes after w that agrees with it below the floater after i
pub returns-in-Some : goal.returns-in-Some
returns-in-Some c =
    let i = c.loop-i.i - 1 in
    let w = place c.args.w.now.at in
    let e = c.in-Some.ensures in
    let s = settled_of _ _ _ w _ _ e.1 c.settle.ensures in
    let x = c.lowest-lows.ensures in
    let y = c.raised.ensures in
    let g = c.requires.good in
    let a = c.requires.alike in
    let more : i + 1 ≡ c.loop-i.i = omega arith in
    let nothing : Nothing (may_in c.args.tab.now) (mark_in c.args.copy) c.args.k (i + 1) w = rw more c.loop-i.invariant in
    next_found _ _ _ i w _ (omega arith) nothing
    (least_good _ _ _ _ _ _ _ x y w g refl a _ s) (least_above _ _ _ _ _ _ _ x y w g refl a _ s) (least_first _ _ _ _ _ _ _ x y w g refl a _ s)

pub loop-i-preserved : goal.loop-i-preserved
loop-i-preserved c =
    let i = c.loop-i.i - 1 in
    let w = place c.args.w.now.at in
    let h = c.in_default.ensures in
    let more : i + 1 ≡ c.loop-i.i = omega arith in
    let nothing : Nothing (may_in c.args.tab.now) (mark_in c.args.copy) c.args.k (i + 1) w = rw more c.loop-i.invariant in
    nothing_step _ _ _ i w nothing (λ u g a. h u (above_all _ _ _ _ _ _ _ c.lowest-lows.ensures c.raised.ensures w c.requires.good refl u g a) a.0)

pub overflow_add-w : goal.overflow_add-w
overflow_add-w c =
    let small : place c.args.w.now.at (c.loop-i.i - 1) < position_limit = full_small _ _ (c.loop-i.i - 1) (place c.args.w.now.at) c.requires.good.full (omega arith) in
    omega (arith, small)

pub augment-requires : goal.augment-requires
augment-requires c =
    record { sized = c.requires.sized; low = omega arith; high = omega arith; but = all_but _ _ _ _ _ _ _ c.lowest-lows.ensures c.raised.ensures (place c.args.w.now.at) c.requires.good refl }
