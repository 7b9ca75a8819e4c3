-- `has_label` meets its contract: the loop's invariant is that the parts passed have other labels. Assumes nothing.
use Rattle.rules.proofs.Searched.{NotAmong}
use Rattle.rules.specs.Told.{name_at}
use Rattle.rules.proofs.has_label.Given as goal

abbrev pub invariant-loop-i : goal.invariant-loop-i
invariant-loop-i l = NotAmong (name_at l.line l.sheet.parts l.x) (name_at l.line l.sheet.parts) l.y l.m l.i
