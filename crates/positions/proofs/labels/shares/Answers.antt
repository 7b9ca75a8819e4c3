use mathlib.Core.Path.{◌∙◌}
use Rattle.positions.proofs.Any.{unfound_end, found}
use Rattle.positions.proofs.Names.{shared_names}
use native.Mathlib.Omega.{arith}
use Rattle.positions.proofs.labels.shares.Goals as goal

pub returns-then-shares_label : goal.returns-then-shares_label
returns-then-shares_label c =
    λ ns. found c.loop-j.invariant (omega arith) c.shares_label.ensures c.if-shares_label.true ns ∙ shared_names _ ns _ _ _ c.parts-p.ensures.0

pub returns : goal.returns
returns c = λ ns. unfound_end c.loop-j.invariant (omega arith) ns ∙ shared_names _ ns _ _ _ c.parts-p.ensures.0
