use native.Mathlib.Omega.{arith}
use Rattle.store.proofs.BracketLaws.{bracketing_start, bracketing_fits, bracketing_next, bracketing_end}
use Rattle.store.proofs.store_brackets.Goals as goal

pub loop-k-init : goal.loop-k-init
loop-k-init c = bracketing_start _ _ _ _ _ _ _ _

pub store_bracket-t-requires : goal.store_bracket-t-requires
store_bracket-t-requires c = bracketing_fits c.loop-k.invariant c.requires (omega arith)

pub loop-k-preserved : goal.loop-k-preserved
loop-k-preserved c =
    bracketing_next c.loop-k.invariant (omega arith) c.store_bracket-t.ensures

pub returns : goal.returns
returns c = bracketing_end c.loop-k.invariant (omega arith)
