use mathlib.Core.Path.{ap, ◌∙◌}
use Rattle.std.proofs.lemmas.Bool.Decides.{same_from_decides}
use Rattle.scope.specs.Bytes.{same_folded}
use Rattle.classes.proofs.Same.{part_is, folded_Decides}
use Rattle.classes.proofs.key_at.Goals as goal

pub returns : goal.returns
returns c =
    same_from_decides _ _ c.eq_ignore_ascii_case.ensures.test (folded_Decides _ _)
    ∙ ap (same_folded c.args.key.now) (part_is c.args.line.now c.args.at _)
