-- The canonical line of what areas hold, or none where they are no tables: "14 tables that no accepted line reads to".
use Rattle.std.specs.Prelude.{◌≡◌, true, false, List, ℕ, ◌≤◌, ℤ, Option, Some, None, length, take}
use Rattle.scope.specs.Limits.{line_limit}
use Rattle.scope.specs.Canonical.{canonical}
use Rattle.scope.specs.Layout.{tables_in}
use Rattle.scope.specs.Answers.{are_tables}

-- the line of tables, of r bytes
pub record TablesLine (bs : List ℕ) (ns : List ℤ) (line : List ℕ) (r : ℕ) : Type 0 where
  pub long : r ≡ length (canonical (tables_in bs ns))
  pub front : take r line ≡ canonical (tables_in bs ns)
  pub some : 1 ≤ r
  pub low : r ≤ line_limit

abbrev pub LineOf : List ℕ → List ℤ → List ℕ → Option ℕ → Type 0
LineOf bs ns line None = are_tables bs ns ≡ false
LineOf bs ns line (Some r) = (are_tables bs ns ≡ true) × TablesLine bs ns line r
