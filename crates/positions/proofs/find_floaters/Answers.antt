use mathlib.Core.Path.{refl}
use Rattle.positions.proofs.Found.{finding_start, finding_few, finding_next, finding_end}
use native.Mathlib.Omega.{arith}
use Rattle.positions.proofs.find_floaters.Goals as goal

pub loop-k-init : goal.loop-k-init
loop-k-init c = finding_start _ _ _ _ _ c.brackets-b.ensures.0 refl refl

pub add_copies-f-requires : goal.add_copies-f-requires
add_copies-f-requires c = finding_few c.loop-k.invariant c.requires.1 (omega arith) (c.copies_of-m.ensures _)

pub loop-k-preserved : goal.loop-k-preserved
loop-k-preserved c = finding_next c.loop-k.invariant c.requires.1 (omega arith) (c.copies_of-m.ensures _) c.add_copies-f.ensures

pub returns : goal.returns
returns c = finding_end c.loop-k.invariant (omega arith)
