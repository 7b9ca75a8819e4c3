-- What the tables of an accepted line, noted in the sheet, are put into, and what the areas hold then.
use Rattle.std.specs.Prelude.{◌≡◌, List, ℕ, ◌≤◌, ℤ, pos, length, take, replicate}
use Rattle.std.proofs.lemmas.List.Edits.{sets}
use Rattle.scope.specs.Line.{Line}
use Rattle.scope.specs.Lists.{laid}
use Rattle.scope.specs.Layout.{bytes_size, numbers_size, residues_at, letters_at, sections_at, counts_row, bytes_of, numbers_of}
use Rattle.sheet.specs.declared.Sheet.{Sheet}
use Rattle.sheet.specs.Kept.{LineNoted}

-- ---- in front of the rows: the numbers of residues and brackets, then letters and sections
abbrev pub front_put : List ℕ → List ℕ → ℕ → ℕ → List ℕ → List ℕ
front_put letters sections residues brackets bytes =
    sets (sets (sets bytes residues_at (counts_row residues brackets)) letters_at (take residues letters)) sections_at (take residues sections)

-- ---- the whole
-- the areas have room, and their room is zero
pub record Clean (bytes : List ℕ) (numbers : List ℤ) : Type 0 where
  pub bytes_room : bytes_size ≤ length bytes
  pub bytes_zero : take bytes_size bytes ≡ replicate bytes_size 0
  pub numbers_room : numbers_size ≤ length numbers
  pub numbers_zero : take numbers_size numbers ≡ replicate numbers_size (pos 0)

pub record Fills (line : List ℕ) (sheet : Sheet) (residues brackets : ℕ) (bytes : List ℕ) (numbers : List ℤ) : Type 0 where
  pub holds_line : Line ℕ
  pub line_noted : LineNoted line sheet residues brackets holds_line
  pub clean : Clean bytes numbers

pub record FilledAll (bytes : List ℕ) (numbers : List ℤ) (bytes' : List ℕ) (numbers' : List ℤ) (l : Line ℕ) : Type 0 where
  pub bytes_are : bytes' ≡ laid (bytes_of l) bytes
  pub numbers_are : numbers' ≡ laid (numbers_of l) numbers
