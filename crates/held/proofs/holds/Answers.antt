use native.Mathlib.Omega.{arith}
use Rattle.held.proofs.LineLaws.{front_fits, front_stops, bracketing_start, bracketing_fits, bracketing_next, bracketing_stops, bracketing_end, rest_fits}
use Rattle.held.proofs.holds.Goals as goal

pub front_held-requires : goal.front_held-requires
front_held-requires c = front_fits c.requires.1

pub returns-then-not-front_held : goal.returns-then-not-front_held
returns-then-not-front_held c = front_stops c.requires.1 _ c.front_held.ensures _ c.if-not-front_held.true

pub loop-k-init : goal.loop-k-init
loop-k-init c = bracketing_start c.requires.1

pub bracket_held-requires : goal.bracket_held-requires
bracket_held-requires c = bracketing_fits c.loop-k.invariant (omega arith)

pub loop-k-preserved : goal.loop-k-preserved
loop-k-preserved c = bracketing_next c.loop-k.invariant (omega arith) c.in-Some.ensures

pub returns-in_default : goal.returns-in_default
returns-in_default c = bracketing_stops c.loop-k.invariant (omega arith) c.in_default.ensures

pub rest_held-requires : goal.rest_held-requires
rest_held-requires c = rest_fits c.loop-k.invariant (omega arith)

pub returns : goal.returns
returns c = bracketing_end c.loop-k.invariant (omega arith) c.front_held.ensures c.if-not-front_held.false c.rest_held.ensures
