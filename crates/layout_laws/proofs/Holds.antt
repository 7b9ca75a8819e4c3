-- Areas that hold the tables of an accepted line.
use Rattle.std.specs.Prelude.{◌≡◌, List, ℕ, ℤ, take}
use Rattle.scope.specs.Line.{Line}
use Rattle.scope.specs.Refusals.{accepted, outcome}
use Rattle.scope.specs.Tables.{tables_of}
use Rattle.scope.specs.Layout.{bytes_of, numbers_of, tables_in, bytes_size, numbers_size}
use Rattle.areas.specs.Bounds.{Bounds}
use Rattle.accepted_laws.specs.Within.{Within}

-- the areas hold the tables of the line l, which is what s reads to
pub record Holds (bs : List ℕ) (ns : List ℤ) (s : List ℕ) (l : Line ℕ) : Type 0 where
  pub reads : outcome s ≡ accepted l
  pub within : Within l
  pub bytes : take bytes_size bs ≡ bytes_of l
  pub numbers : take numbers_size ns ≡ numbers_of l
  pub bounds : Bounds bs ns
  pub tables : tables_in bs ns ≡ tables_of l
  pub tables_within : Within (tables_in bs ns)
