-- `labelled_part` meets its contract: the loop's invariant is that the parts passed have no label. Assumes nothing.
use Rattle.rules.proofs.Searched.{SeekingLabel}
use Rattle.sheet.specs.Fields.{parts_field, base_field}
use Prim.Native.Nat.{◌-◌}
use Rattle.rules.proofs.labelled_part.Given as goal

abbrev pub invariant-loop-x : goal.invariant-loop-x
invariant-loop-x l = SeekingLabel l.sheet.parts (base_field l.sheet.heads l.k) (parts_field l.sheet.heads l.k - 1) l.last l.x
