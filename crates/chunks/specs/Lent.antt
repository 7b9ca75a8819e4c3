-- What is lent for taking a chunk in: the hold, the areas and the output, with the limits that they keep to.
use Rattle.std.specs.Prelude.{◌≡◌, ℕ, ◌*◌, ◌≤◌, length}
use Rattle.store.specs.Filled.{Clean}
use Rattle.entries.specs.Entry.{entry_limit}
use Rattle.chunks.specs.declared.Desk.{Desk}
use Rattle.chunks.specs.Feeding.{hold_limit}

-- the largest number that a line can have
abbrev pub number_limit : ℕ
number_limit = 18446744073709551615

-- the output has no more than so many bytes
abbrev pub output_limit : ℕ
output_limit = 3 * entry_limit

-- the hold has so many bytes of a line, the areas are clean, and the output has room for an entry
pub record Ready (desk : Desk) (held : ℕ) : Type 0 where
  pub room : length desk.hold ≡ hold_limit
  pub within : held ≤ hold_limit
  pub clean : Clean desk.bytes desk.numbers
  pub wide : entry_limit ≤ length desk.out
  pub narrow : length desk.out ≤ output_limit
