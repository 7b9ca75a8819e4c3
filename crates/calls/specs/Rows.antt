-- What is ready before the rows are filled in: a refusal, or the table of where each floater may stand.
use Rattle.std.specs.Prelude.{◌≡◌, List, ℕ, ◌≤◌, ℤ, length, Result, Ok, Err, true, false}
use Rattle.scope.specs.declared.answers.Site.{Site}
use Rattle.scope.specs.Limits.{row_limit}
use Rattle.scope.specs.Answers.{says, rows_said, too_short, are_tables}
use Rattle.areas.specs.Floats.{Sized, TableIs}
use Rattle.scope.specs.declared.refusals.Refusal.{Refusal}

-- so many floaters, and their table
pub record RowsTable (bs : List ℕ) (ns : List ℤ) (room : ℕ) (tab : List ℕ) (k : ℕ) : Type 0 where
  pub roomy : row_limit ≤ room
  pub tried : too_short bs ns ≡ false
  pub taken : are_tables bs ns ≡ true
  pub sized : Sized tab k
  pub table : TableIs bs ns tab k

abbrev pub RowsReady : List ℕ → List ℤ → ℕ → Result ℕ Refusal → List ℕ → Type 0
RowsReady bs ns room (Ok k) tab = RowsTable bs ns room tab k
RowsReady bs ns room (Err e) tab = (out : List Site) → length out ≡ room → says (Err e) ≡ rows_said bs ns out
