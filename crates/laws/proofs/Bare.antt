-- Places do not matter to the rows and to the labile masses.
use Rattle.std.specs.Prelude.{◌≡◌}
use Rattle.std.proofs.Math.Path.{ap}
use Rattle.scope.specs.Line.{Line}
use Rattle.scope.specs.Tables.{tables_of}
use Rattle.scope.specs.Positions.{rows_from, rows_of}
use Rattle.scope.specs.Masses.{labile_mass}
use Rattle.reading_laws.proofs.Weighed.{same_labile}
use Rattle.reading_laws.proofs.Bare.{alike_bare, same_floating}

module _ {P : Type 0} where
  pub rows_bare : (l : Line P) → rows_of (tables_of l) ≡ rows_of l
  unfolding rows_of
  rows_bare l = ap (λ f. rows_from 1 f.lists) (same_floating l)

  pub labile_bare : (l : Line P) → labile_mass (tables_of l) ≡ labile_mass l
  labile_bare l = same_labile (alike_bare l)
