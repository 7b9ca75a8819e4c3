-- A piece is fed, it is owed, and what of it is taken is counted; where a write fails, so are the lines that are out.
use mathlib.Core.Path.{refl}
use native.Mathlib.Omega.{arith}
use lib.ListN.{length-take}
use Rattle.chunks.proofs.Putting.{stays_few}
use Rattle.stream.proofs.Handing.{owed, taken_start, taken_more, taken_all, stays_ready, drains_lost}
use Rattle.stream.proofs.drain.Goals as goal

pub loop-from-init : goal.loop-from-init
loop-from-init g c = (taken_start _ _ _ _ _ refl c.requires.2, refl)

pub feed-fed-requires : goal.feed-fed-requires
feed-fed-requires g c =
    let w = c.loop-from.invariant.0 in
    let p = c.requires in
    (w.inside, omega (arith, w.count, p.0, p.1), w.ready, stays_few _ _ w.leaves p.3)

pub hand-taken-requires : goal.hand-taken-requires
hand-taken-requires g c = owed c.feed-fed.ensures.0

pub lines_in-requires : goal.lines_in-requires
lines_in-requires g c = omega (arith, c.if-taken-fed.true, c.feed-fed.ensures.0.puts.fits)

pub overflow_add-number : goal.overflow_add-number
overflow_add-number g c =
    let w = c.loop-from.invariant.0 in
    let f = c.feed-fed.ensures in
    let p = c.requires in
    omega (arith, w.count, w.inside, f.0.puts.fits, f.1.narrow, c.if-taken-fed.true, c.lines_in.ensures.1, length-take c.hand-taken.result c.feed-fed.new.desk.out, p.0, p.1)

pub returns-then-taken-fed : goal.returns-then-taken-fed
returns-then-taken-fed g c =
    let w = c.loop-from.invariant.0 in
    (drains_lost _ w.grows, stays_ready w.ready c.feed-fed.ensures.1)

pub overflow_add-sent : goal.overflow_add-sent
overflow_add-sent g c =
    let f = c.feed-fed.ensures in
    omega (arith, c.loop-from.invariant.0.low, c.loop-from-test.true, f.0.puts.fits, f.1.narrow, c.hand-taken.ensures.within, c.requires.0)

pub loop-from-smaller : goal.loop-from-smaller
loop-from-smaller g c =
    let f = c.feed-fed.ensures.0 in
    omega (arith, f.inside, f.goes c.loop-from-test.true)

pub loop-from-preserved : goal.loop-from-preserved
loop-from-preserved g c =
    let f = c.feed-fed.ensures in
    (taken_more _ _ _ _ _ c.loop-from.invariant.0 c.loop-from-test.true f.0 f.1 c.hand-taken.ensures.within c.if-taken-fed.false, refl)

pub returns : goal.returns
returns g c = taken_all _ _ _ _ _ c.loop-from.invariant c.loop-from-test.false
