-- `positions::labels::is_label` meets its contract. Assumes nothing.
use mathlib.Core.Path.{ap, ◌∙◌}
use mathlib.Core.Bool.{not}
use borrow.Author.Tests.{eq-eqb}
use Rattle.positions.proofs.Names.{among_none, among_one}
use Rattle.positions.proofs.labels.is_label.Goals as goal

pub returns-else-n-ne0 : goal.returns-else-n-ne0
returns-else-n-ne0 c ns = ap not (eq-eqb _ _ c.if-n-ne0.false) ∙ among_none _ _ _ _ c.label_length-n.ensures.0 c.if-n-ne0.false ns

pub returns-then-n-ne0 : goal.returns-then-n-ne0
returns-then-n-ne0 c = among_one _ _ _ _ c.label_length-n.ensures.0 c.if-n-ne0.true c.label_from.ensures c.same_bytes.ensures
