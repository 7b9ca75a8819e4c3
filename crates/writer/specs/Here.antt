-- What a step of the writer reads lies inside the areas, and what it puts has room: plain facts of one part, of one bracket, and of the brackets that are
-- left, of tables within bounds.
use Rattle.std.specs.Prelude.{ℕ, ◌+◌, ◌-◌, ◌*◌, ◌≤◌, ◌<◌, List, ℤ, length}
use Rattle.scope.specs.Limits.{bracket_limit, part_limit, place_limit, decimal_limit}
use Rattle.scope.specs.Layout.{bytes_size, numbers_size, brackets_field, parts_field, places_field, score_field}
use Rattle.areas.specs.Bounds.{PartBounds}
use Rattle.figures.specs.Written.{ceiling}
use Rattle.writer.specs.Written.{bracket_most}

-- bracket k, its score and its places
pub record BracketHere (bs : List ℕ) (ns : List ℤ) (k : ℕ) : Type 0 where
  pub bytes_room : bytes_size ≤ length bs
  pub numbers_room : numbers_size ≤ length ns
  pub low : k < bracket_limit
  pub few_parts_lem : parts_field bs k ≤ part_limit
  pub few_places : places_field bs k ≤ place_limit
  pub score : score_field bs k ≤ decimal_limit + 1
  pub part : (j : ℕ) → j < parts_field bs k → PartBounds bs ns k j

-- part j of bracket k
pub record PartHere (bs : List ℕ) (ns : List ℤ) (k j : ℕ) : Type 0 where
  pub bracket : BracketHere bs ns k
  pub low : j < part_limit
  pub bounds : PartBounds bs ns k j

-- from the place `at` on there is room for the brackets from bracket `from` on, and for so many bytes outside brackets
pub record RoomFor (bs : List ℕ) (from more at : ℕ) : Type 0 where
  pub fits : at + (bracket_most * (brackets_field bs - from) + more) ≤ ceiling
