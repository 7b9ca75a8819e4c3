-- What a reading of one bracket's row, or of what stands at a position, asks of the area of bytes.
use Rattle.std.specs.Prelude.{ℕ, ◌+◌, ◌≤◌, ◌<◌, List, ℤ, length}
use Rattle.std.proofs.Common.{arith}
use Rattle.scope.specs.Limits.{residue_limit, bracket_limit, part_limit, place_limit}
use Rattle.scope.specs.Layout.{bytes_size, brackets_field, parts_field, places_field, residues_field}
use Rattle.areas.specs.Bounds.{Bounds}

-- the area is whole, there is room for the bracket, and it has no more parts and places than there is room for
pub record Row (bs : List ℕ) (k : ℕ) : Type 0 where
  pub room : bytes_size ≤ length bs
  pub inside : k < bracket_limit
  pub few_parts_lem : parts_field bs k ≤ part_limit
  pub few_places : places_field bs k ≤ place_limit

-- so has every bracket of tables that keep to their bounds
pub row : {bs : List ℕ} {ns : List ℤ} → Bounds bs ns → (k : ℕ) → k < brackets_field bs → Row bs k
row {bs} b k h =
    let few : brackets_field bs ≤ bracket_limit = b.few_brackets_lem in
    record { room = b.bytes_room; inside = omega arith; few_parts_lem = (b.bracket k h).few_parts_lem; few_places = (b.bracket k h).few_places }

-- the area is whole, it has no more residues than there is room for, and x is one of the positions: a terminus or a residue's
pub record Position (bs : List ℕ) (x : ℕ) : Type 0 where
  pub room : bytes_size ≤ length bs
  pub few_residues : residues_field bs ≤ residue_limit
  pub inside : x ≤ residues_field bs + 1
