use mathlib.Core.Path.{refl}
use native.Mathlib.Omega.{arith}
use Rattle.walk.proofs.Settling.{settling_start, settling_next, settling_end}
use Rattle.walk.proofs.settle.Goals as goal

pub loop-i-init : goal.loop-i-init
loop-i-init c = settling_start _ _ _

pub put_kind-requires : goal.put_kind-requires
put_kind-requires c = (omega (arith, c.requires, c.loop-i-test.true), omega arith)

pub loop-i-preserved : goal.loop-i-preserved
loop-i-preserved c = settling_next c.loop-i.invariant c.loop-i-test.true _ refl _ c.put_kind.ensures

pub returns : goal.returns
returns c = settling_end c.loop-i.invariant c.loop-i-test.false
