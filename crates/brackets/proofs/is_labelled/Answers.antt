use native.Mathlib.Omega.{arith}
use Rattle.brackets.proofs.Laws.{labels_start, labels_next, labels_found, labels_end}
use Rattle.brackets.proofs.is_labelled.Goals as goal

pub returns-then-label-ne0 : goal.returns-then-label-ne0
returns-then-label-ne0 c = labels_found c.loop-j.invariant (omega arith) c.label_length-label.ensures.0 c.if-label-ne0.true

pub loop-j-preserved : goal.loop-j-preserved
loop-j-preserved c = labels_next c.loop-j.invariant (omega arith) c.label_length-label.ensures.0 c.if-label-ne0.false

pub loop-j-init : goal.loop-j-init
loop-j-init c = labels_start _ _ _ c.parts-m.ensures.0 c.parts-m.ensures.1

pub returns : goal.returns
returns c = labels_end c.loop-j.invariant (omega arith)
