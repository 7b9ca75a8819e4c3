-- The digit is the number. Assumes nothing.
use mathlib.Core.Path.{ap, sym, ◌∙◌}
use Prim.Native.Nat.{◌+◌}
use native.Mathlib.Nat.{div-one}
use Rattle.scope.specs.Canonical.{last_digits}
use Rattle.figures.proofs.Storing.{copied_none, puts_lead}
use Rattle.figures.proofs.store_one.Goals as goal

pub returns : goal.returns
unfolding last_digits
returns c = puts_lead 0 c.args.n c.requires.0 (c.digit.ensures ∙ sym (ap (λ x. 48 + x) (div-one _))) (copied_none _ _)
