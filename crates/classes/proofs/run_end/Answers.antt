-- The first byte that is not of the class, or the end of the line.
use native.Mathlib.Omega.{arith}
use Rattle.classes.proofs.Runs.{run_goes_on, run_stops, run_ends, run_in, span_end}
use Rattle.classes.proofs.run_end.Goals as goal

pub returns-then-not-class : goal.returns-then-not-class
returns-then-not-class g c = λ p h. run_stops (c.loop-to.invariant p h) c.loop-to-test.true (h _ _ c.class.ensures) c.if-not-class.true

pub loop-to-preserved : goal.loop-to-preserved
loop-to-preserved g c = λ p h. run_goes_on (c.loop-to.invariant p h) c.loop-to-test.true (h _ _ c.class.ensures) c.if-not-class.false

pub returns : goal.returns
returns g c = λ p h.
    let e = run_ends (c.loop-to.invariant p h) c.loop-to-test.false in
    grind (arith, e, c.max.ensures, run_in p c.args.line.now c.args.at, span_end p c.args.line.now c.args.at)
