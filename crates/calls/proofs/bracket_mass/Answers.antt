-- `calls::bracket_mass` meets its contract: 17 past the last bracket, then its mass.
use mathlib.Core.Path.{sym, ap, ◌∙◌}
use Rattle.calls.specs.Single.{mass_at}
use Rattle.calls.proofs.Laws.{answers}
use Rattle.calls.proofs.SingleLaws.{mass_17, mass_is}
use Rattle.calls.proofs.bracket_mass.Goals as goal

pub returns-then-brackets-k : goal.returns-then-brackets-k
returns-then-brackets-k c = mass_17 _ _ _ c.brackets.ensures.0 c.if-brackets-k.true ∙ sym (answers (λ t. mass_at t c.args.k) c.in_ok-bytes.ensures)

pub returns : goal.returns
returns c =
    mass_is _ _ _ c.brackets.ensures.0 c.if-brackets-k.false c.bracket_mass.ensures
    ∙ sym (answers (λ t. mass_at t c.args.k) c.in_ok-bytes.ensures)
