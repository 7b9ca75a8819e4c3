-- `same_label` meets its contract: two labels of other lengths, or compared byte for byte. Assumes nothing.
use Rattle.rules.proofs.Searched.{label_other, label_same}
use mathlib.Core.Path.{◌∙◌}
use borrow.Author.Tests.{ne_eqb}
use Rattle.rules.proofs.same_label.Goals as goal

pub returns-else-m-n : goal.returns-else-m-n
returns-else-m-n c =
    ne_eqb _ _ c.if-m-n.false ∙ label_other c.args.line.now c.args.sheet.now.parts c.args.x c.args.y c.label_from-a.ensures.0 c.label_to.ensures.0 c.label_from-b.ensures.0 c.label_to-2.ensures.0 c.requires.0 c.requires.1 c.if-m-n.false

pub returns-then-m-n : goal.returns-then-m-n
returns-then-m-n c =
    label_same c.args.line.now c.args.sheet.now.parts c.args.x c.args.y c.label_from-a.ensures.0 c.label_to.ensures.0 c.label_from-b.ensures.0 c.label_to-2.ensures.0 c.if-m-n.true c.same_text.ensures
