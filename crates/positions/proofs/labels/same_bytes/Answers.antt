-- `positions::labels::same_bytes` meets its contract. Assumes nothing.
use mathlib.Core.Path.{sym, ap, ◌∙◌}
use borrow.Author.Tests.{ne_eqb}
use Rattle.scope.specs.Lists.{same, part}
use Rattle.positions.proofs.Names.{same_not}
use Rattle.positions.proofs.labels.same_bytes.Goals as goal

pub returns-else-m-n : goal.returns-else-m-n
returns-else-m-n c = ne_eqb _ _ c.if-m-n.false ∙ same_not _ _ _ _ _ c.requires.0 c.requires.1 c.if-m-n.false

pub returns-then-m-n : goal.returns-then-m-n
returns-then-m-n c =
    c.same_text.ensures ∙ ap (λ i. same (part c.args.a i c.args.bytes.now) (part c.args.b c.args.n c.args.bytes.now)) (sym c.if-m-n.true)
