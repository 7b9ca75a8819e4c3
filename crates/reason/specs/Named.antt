-- The set as it is handed out: the numbers of its floaters, from 1, ascending.
use Rattle.std.specs.Prelude.{◌≡◌, Bool, List, ℕ, ◌-◌, length}
use Rattle.scope.specs.Limits.{copy_limit}
use Rattle.scope.specs.Lists.{keep, tabled, padded}
use Rattle.scope.specs.Reasons.{Reason}
use Rattle.areas.specs.Floats.{lists_in}

-- the numbers of those of the first k that are in the set m
abbrev pub numbers_of : (ℕ → Bool) → ℕ → List ℕ
numbers_of m k = keep (λ i. m (i - 1)) (tabled (λ x. x) 1 k)

-- n entries are these numbers, and zeros stand behind them
pub record Named (l : List ℕ) (n : ℕ) (at : List ℕ) : Type 0 where
  pub many : n ≡ length l
  pub names : at ≡ padded 0 copy_limit l

-- the answer for the first k floaters of a table, whatever their marks
pub record Competing (tab : List ℕ) (k n : ℕ) (at : List ℕ) : Type 0 where
  pub set : List ℕ
  pub reason : (marks : List Bool) → Reason (record { lists = lists_in tab k; marks = marks }) set
  pub named : Named set n at
