-- What the search for the smallest set answers; a set is given by marks.
use Rattle.std.specs.Prelude.{Bool, false, List, ℕ, get_or, Option, MatchOption}
use Rattle.scope.specs.Limits.{position_limit}
use Rattle.placement_laws.specs.Hall.{Short}
use Rattle.placement_laws.specs.Smallest.{SmallestOf}
use Rattle.reason.specs.declared.Set.{Set}

-- the set that marks give
abbrev pub marked_in : List Bool → ℕ → Bool
marked_in l s = get_or l s false

-- the answer: the smallest, or none where no set has too few
abbrev pub Told : (ℕ → ℕ → Bool) → ℕ → Option Set → Type 0
Told ok k r = MatchOption r ((p : ℕ → Bool) → Short ok k position_limit p → ⊥) (λ s. SmallestOf ok k s.n (marked_in s.marks))
