-- `positions::labels::shares_label` meets its contract. Assumes nothing.
use mathlib.Core.Path.{ap, ◌∙◌}
use mathlib.Core.Bool.{not}
use borrow.Author.Tests.{eq-eqb}
use Rattle.positions.proofs.Names.{shared_none, shared_one}
use Rattle.positions.proofs.labels.shares_label.Goals as goal

pub returns-else-m-ne0 : goal.returns-else-m-ne0
returns-else-m-ne0 c ns = ap not (eq-eqb _ _ c.if-m-ne0.false) ∙ shared_none _ _ _ _ c.label_length-m.ensures.0 c.if-m-ne0.false ns

pub returns-then-m-ne0 : goal.returns-then-m-ne0
returns-then-m-ne0 c = shared_one _ _ _ _ c.label_length-m.ensures.0 c.if-m-ne0.true c.label_from.ensures c.has_label.ensures
