-- `tabled::line_of` meets its contract: tables keep to their bounds, and their brackets to their order.
use mathlib.Core.Path.{sym, ◌∙◌}
use Rattle.bounds.specs.Verdict.{no}
use Rattle.bounds.specs.Needed.{bounds_needed}
use Rattle.tabled.specs.Fourteen.{order_needed}
use Rattle.tabled.proofs.line_of.Goals.{else-in_bounds-via-then-in_bounds+else-in_order, else-in_bounds-via-else-in_bounds}
use Rattle.tabled.proofs.line_of.Goals as goal

pub returns-else-in_bounds : goal.returns-else-in_bounds
returns-else-in_bounds c =
    elim c.else-in_bounds.branch [ else-in_bounds-via-then-in_bounds+else-in_order w ↦ order_needed _ _ (sym (w.in_order.ensures _) ∙ w.if-in_order.false) | else-in_bounds-via-else-in_bounds w ↦ bounds_needed _ _ (no _ c.in_bounds.ensures w.if-in_bounds.false) ]
