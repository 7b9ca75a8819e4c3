use native.Mathlib.Omega.{arith}
use Rattle.walk.proofs.Stores.{letters_start, letters_next, letters_end}
use Rattle.walk.proofs.store_letters.Goals as goal

pub loop-i-init : goal.loop-i-init
loop-i-init c = letters_start _ _ _ _ _

pub bounds-line-at : goal.bounds-line-at
bounds-line-at c = omega (arith, c.requires.0, c.loop-i-test.true)

pub loop-i-preserved : goal.loop-i-preserved
loop-i-preserved c = letters_next c.loop-i.invariant c.requires.0 c.loop-i-test.true _ c.upper.ensures

pub returns : goal.returns
returns c = letters_end c.loop-i.invariant c.loop-i-test.false
