-- What the numbers in the areas keep to where they are tables of a line: enough for every read of them to lie inside, and every sum to fit.
use Rattle.std.specs.Prelude.{ℕ, ◌+◌, ◌*◌, ◌^◌, ◌≤◌, ◌<◌, List, ℤ, nat_abs, length}
use Rattle.scope.specs.Limits.{line_limit, residue_limit, bracket_limit, part_limit, text_limit, label_limit, count_limit, place_limit, size_limit, decimal_limit}
use Rattle.scope.specs.Layout.{bytes_size, numbers_size, brackets_field, count_field, decimals_field, first_field, label_field, last_field, mass_field, offset_field, parts_field, places_field, residues_field, score_field, score_number, text_field}

-- a mass or score, in millionths
abbrev pub Small : ℤ → Type 0
Small m = nat_abs m < size_limit * 10 ^ decimal_limit

-- part j of bracket k
pub record PartBounds (bs : List ℕ) (ns : List ℤ) (k j : ℕ) : Type 0 where
  pub few_decimals : decimals_field bs k j ≤ decimal_limit
  pub short_text_lem : text_field bs k j ≤ text_limit
  pub short_label : label_field bs k j ≤ label_limit
  pub inside : offset_field bs k j + text_field bs k j + label_field bs k j ≤ line_limit
  pub small : Small (mass_field ns k j)

pub record BracketBounds (bs : List ℕ) (ns : List ℤ) (k : ℕ) : Type 0 where
  pub first : first_field bs k ≤ residues_field bs + 1
  pub last : last_field bs k ≤ residues_field bs + 1
  pub some_count : 0 < count_field bs k
  pub few_counts : count_field bs k ≤ count_limit
  pub few_parts_lem : parts_field bs k ≤ part_limit
  pub few_places : places_field bs k ≤ place_limit
  pub score : score_field bs k ≤ decimal_limit + 1
  pub small : Small (score_number ns k)
  pub part : (j : ℕ) → j < parts_field bs k → PartBounds bs ns k j

pub record Bounds (bs : List ℕ) (ns : List ℤ) : Type 0 where
  pub bytes_room : bytes_size ≤ length bs
  pub numbers_room : numbers_size ≤ length ns
  pub some_residue : 0 < residues_field bs
  pub few_residues : residues_field bs ≤ residue_limit
  pub few_brackets_lem : brackets_field bs ≤ bracket_limit
  pub bracket : (k : ℕ) → k < brackets_field bs → BracketBounds bs ns k
