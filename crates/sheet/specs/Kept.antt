-- What is so of every sheet, what a sheet holds of an accepted line, and what stays of one while parts are put into it.
use Rattle.std.specs.Prelude.{◌≡◌, List, ℕ, length}
use Rattle.sheet.specs.declared.Sheet.{Sheet}
use Rattle.scope.specs.Line.{Line}
use Rattle.reading_laws.proofs.Taken.{Taken}
use Rattle.sheet.specs.Rows.{Noted, Lettered, Roomy}

-- each table has its size
abbrev pub Sized : Sheet → Type 0
Sized s = Roomy s.letters s.sections s.heads s.parts s.masses s.scores

-- only rows of parts and their masses change
pub record OnlyParts (s t : Sheet) : Type 0 where
  pub letters : t.letters ≡ s.letters
  pub sections : t.sections ≡ s.sections
  pub heads : t.heads ≡ s.heads
  pub scores : t.scores ≡ s.scores

-- the line is accepted, and what was read of it is in the sheet: l is what is kept of that
pub record LineNoted (line : List ℕ) (sheet : Sheet) (residues brackets : ℕ) (l : Line ℕ) : Type 0 where
  pub taken : Taken line l
  pub parts_many : ℕ
  pub noted : Noted line taken.read.brackets parts_many sheet.heads sheet.parts sheet.masses sheet.scores
  pub lettered : Lettered taken.read.residues sheet.letters sheet.sections
  pub residues_are : residues ≡ length taken.read.residues
  pub brackets_are : brackets ≡ length taken.read.brackets
