-- The bounds of tables in the parts that are tested by themselves.
use Rattle.std.specs.Prelude.{List, ℕ, ◌+◌, ◌≤◌, ◌<◌, ℤ, length}
use Rattle.scope.specs.Limits.{bracket_limit, part_limit, count_limit, place_limit, decimal_limit}
use Rattle.scope.specs.Layout.{bytes_size, numbers_size, count_field, first_field, last_field, parts_field, places_field, residues_field, score_field, score_number}
use Rattle.areas.specs.Bounds.{Small, PartBounds, BracketBounds}

-- areas of the sizes that tables take
pub record Room (bs : List ℕ) (ns : List ℤ) : Type 0 where
  pub bytes : bytes_size ≤ length bs
  pub numbers : numbers_size ≤ length ns

-- in them, a row k
pub record RowRoom (bs : List ℕ) (ns : List ℤ) (k : ℕ) : Type 0 where
  pub room : Room bs ns
  pub row : k < bracket_limit

-- its positions, which are at most one past the residues
pub record PlaceBounds (bs : List ℕ) (k : ℕ) : Type 0 where
  pub first : first_field bs k ≤ residues_field bs + 1
  pub last : last_field bs k ≤ residues_field bs + 1

-- its numbers
pub record HeadBounds (bs : List ℕ) (ns : List ℤ) (k : ℕ) : Type 0 where
  pub some_count : 0 < count_field bs k
  pub few_counts : count_field bs k ≤ count_limit
  pub few_parts_lem : parts_field bs k ≤ part_limit
  pub few_places : places_field bs k ≤ place_limit
  pub score : score_field bs k ≤ decimal_limit + 1
  pub small : Small (score_number ns k)

-- each of its parts
abbrev pub PartsBounds : List ℕ → List ℤ → ℕ → Type 0
PartsBounds bs ns k = (j : ℕ) → j < parts_field bs k → PartBounds bs ns k j

-- each of the first n brackets
abbrev pub BracketsBounds : List ℕ → List ℤ → ℕ → Type 0
BracketsBounds bs ns n = (k : ℕ) → k < n → BracketBounds bs ns k
