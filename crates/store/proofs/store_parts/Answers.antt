use native.Mathlib.Omega.{arith}
use Rattle.store.proofs.PartsLaws.{parting_start, parting_fits, parting_next, parting_end}
use Rattle.store.proofs.store_parts.Goals as goal

pub loop-j-init : goal.loop-j-init
loop-j-init c = parting_start _ _ _ _ _ _ _ _ _

pub store_part-u-requires : goal.store_part-u-requires
store_part-u-requires c = parting_fits c.loop-j.invariant c.requires (omega arith)

pub loop-j-preserved : goal.loop-j-preserved
loop-j-preserved c = parting_next c.loop-j.invariant (omega arith) c.store_part-u.ensures

pub returns : goal.returns
returns c = parting_end c.loop-j.invariant (omega arith)
