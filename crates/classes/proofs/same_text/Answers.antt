use mathlib.Core.Path.{ap₂, ◌∙◌}
use Rattle.scope.specs.Lists.{same}
use Rattle.classes.proofs.Same.{same_is, part_is}
use Rattle.classes.proofs.same_text.Goals as goal

pub returns : goal.returns
returns c = c.eq.ensures ∙ same_is _ _ ∙ ap₂ same (part_is c.args.line.now c.args.a c.args.n) (part_is c.args.line.now c.args.b c.args.n)
