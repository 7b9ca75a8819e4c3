-- The floaters of the tables in areas, and a table of bytes of where each may stand.
use Rattle.std.specs.Prelude.{◌≡◌, List, map, ℕ, ◌+◌, ◌*◌, ◌≤◌, eqb, ℤ, length, get_or, take}
use Rattle.scope.specs.Limits.{copy_limit, row_limit, position_limit}
use Rattle.scope.specs.Lists.{keep, tabled}
use Rattle.scope.specs.Layout.{tables_in}
use Rattle.scope.specs.Positions.{floaters, floaters_by, brackets_of, copies_of, Floating, is_further, floating_of}

-- the positions of floater f: those x whose byte, in the row of f, is 1
unfoldable pub list_in : List ℕ → ℕ → List ℕ
list_in tab f = keep (λ x. eqb (get_or tab (f * position_limit + x) 0) 1) (tabled (λ x. x) 0 position_limit)

-- of the first so many floaters
unfoldable pub lists_in : List ℕ → ℕ → List (List ℕ)
lists_in tab count = tabled (list_in tab) 0 count

-- what floats, by the table and the numbers of the copies
abbrev pub floating_in : List ℕ → List ℕ → ℕ → Floating
floating_in tab copy count = record { lists = lists_in tab count; marks = map is_further (take count copy) }

-- a table with room for every floater, and so many of them
pub record Sized (tab : List ℕ) (count : ℕ) : Type 0 where
  pub room : row_limit ≤ length tab
  pub few : count ≤ copy_limit

-- so many floaters, each with the number of its bracket and which of its copies it is, and the table of where they may stand
pub record FloatersAre (bs : List ℕ) (ns : List ℤ) (count : ℕ) (index copy : List ℕ) : Type 0 where
  pub many : count ≡ length (floaters (tables_in bs ns))
  pub few : count ≤ copy_limit
  pub brackets : take count index ≡ brackets_of (floaters_by (tables_in bs ns))
  pub copies : take count copy ≡ copies_of (floaters_by (tables_in bs ns))

abbrev pub TableIs : List ℕ → List ℤ → List ℕ → ℕ → Type 0
TableIs bs ns tab count = lists_in tab count ≡ (floating_of (tables_in bs ns)).lists
