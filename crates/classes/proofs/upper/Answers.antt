use mathlib.Core.Path.{◌∙◌}
use Rattle.classes.proofs.Same.{upper_is}
use Rattle.classes.proofs.upper.Goals as goal

pub returns : goal.returns
returns c = c.to_ascii_uppercase.ensures.value ∙ upper_is c.args.b
