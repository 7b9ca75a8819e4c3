-- `held::front_held` meets its contract: the two numbers, the letters, the sections. Assumes nothing.
use borrow.Author.Rules.{rules}
use mathlib.Core.Path.{refl}
use Rattle.held.proofs.Joins.{tells_as, tells_equal, tells_both}
use Rattle.held.proofs.FieldLaws.{counts_told}
use Rattle.held.proofs.front_held.Goals as goal

pub returns : goal.returns
returns c =
    tells_as (λ p. record { counts_at = p.0.0; letters_at_is = p.0.1; sections_at_is = p.1 }) (λ f. ((f.counts_at, f.letters_at_is), f.sections_at_is))
    (tells_both
    (tells_both
    (counts_told (record { low = c.fits-bytes; long = search rules })
    (tells_equal c.residues.ensures.0 refl) (tells_equal c.brackets.ensures.0 refl))
    c.padded_held.ensures)
    c.padded_held-2.ensures)
