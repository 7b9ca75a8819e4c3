-- A number behind a sign is a mass, or is stuck.
use borrow.Author.Rules.{rules}
use Rattle.std.proofs.lemmas.Result.{err_from_is_err_and}
use Rattle.values.proofs.Values.{mass_some, mass_none}
use Rattle.values.proofs.mass_at.Goals as goal

pub returns-in_err-mass : goal.returns-in_err-mass
returns-in_err-mass c =
    λ at a.
    let p = err_from_is_err_and c.from_residual.result c.from_residual.ensures.1 in
    rw (p.1, p.2) (mass_none _ at _ _ _ _ a (search rules) (search rules) _ (c.in_err-mass.ensures _))

pub returns : goal.returns
returns c = λ at a. mass_some _ at _ _ _ _ a (search rules) (search rules) _ (c.in_ok-mass.ensures _)
