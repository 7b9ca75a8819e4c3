use mathlib.Core.Path.{◌∙◌}
use Rattle.positions.proofs.Any.{unfound_end, found}
use Rattle.positions.proofs.Names.{among_names}
use native.Mathlib.Omega.{arith}
use Rattle.positions.proofs.labels.has_label.Goals as goal

pub returns-then-is_label : goal.returns-then-is_label
returns-then-is_label c =
    λ ns. found c.loop-j.invariant (omega arith) c.is_label.ensures c.if-is_label.true ns ∙ among_names _ ns _ _ _ c.parts-p.ensures.0

pub returns : goal.returns
returns c = λ ns. unfound_end c.loop-j.invariant (omega arith) ns ∙ among_names _ ns _ _ _ c.parts-p.ensures.0
