-- A turn's state is what the next one asks.
use native.Mathlib.Omega.{arith}
use borrow.Author.Rules.{rules}
use Rattle.stream.proofs.Turning.{serves_start, serves_more}
use Rattle.stream.proofs.serve.Goals as goal

pub loop-turns-init : goal.loop-turns-init
loop-turns-init g c = serves_start _ c.requires.0 c.requires.1

pub turn-kept-requires : goal.turn-kept-requires
turn-kept-requires g c =
    let w = c.loop-turns.invariant in
    (w.room_fits, omega (arith, w.count, c.loop-turns-test.true), w.ready, w.few)

pub returns-then-is_some : goal.returns-then-is_some
returns-then-is_some g c = omega (arith, c.loop-turns.invariant.few, c.turn-kept.ensures.grows)

pub loop-turns-preserved : goal.loop-turns-preserved
loop-turns-preserved g c =
    serves_more _ c.loop-turns.invariant c.turn-kept.ensures (search rules) (search rules)

pub returns : goal.returns
returns g c = omega (arith, c.loop-turns.invariant.few)
