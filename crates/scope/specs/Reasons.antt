-- Why there is no placement (02, L7): "a set of floaters whose permitted positions, taken together, are fewer than the set". No search is run here.
use Rattle.std.specs.Prelude.{ℕ, ◌-◌, ◌≡◌, Bool, true, false, ◌&&◌, ◌||◌, List, [], ◌∷◌, eqb, ltb, length, get_or}
use Rattle.scope.specs.Limits.{position_limit}
use Rattle.scope.specs.Lists.{all, keep, tabled, member}
use Rattle.scope.specs.Positions.{between, Floating}
use Rattle.scope.specs.Placements.{less}

-- a set of floaters: their numbers, counted from 1, ascending
unfoldable pub rising : List ℕ → Bool
rising [] = true
rising (i ∷ []) = true
rising (i ∷ j ∷ l) = ltb i j && rising (j ∷ l)

abbrev pub are_floaters : Floating → List ℕ → Bool
are_floaters f l = rising l && all (between 1 (length f.lists)) l

-- x is permitted to one of them
unfoldable pub permitted_to : Floating → List ℕ → ℕ → Bool
permitted_to f [] x = false
permitted_to f (i ∷ l) x = member x (get_or f.lists (i - 1) []) || permitted_to f l x

-- "permitted positions, taken together": each counts once
abbrev pub together : Floating → List ℕ → List ℕ
together f l = keep (permitted_to f l) (tabled (λ x. x) 0 position_limit)

-- "are fewer than the set"
unfoldable pub too_few : Floating → List ℕ → Bool
too_few f l = are_floaters f l && ltb (length (together f l)) (length l)

-- "Give the smallest; among equals the first by floater order."
abbrev pub goes_before : List ℕ → List ℕ → Bool
goes_before l m = ltb (length l) (length m) || eqb (length l) (length m) && less l m

pub record Smallest (f : Floating) (l : List ℕ) : Type 0 where
  pub few : too_few f l ≡ true
  pub first : (m : List ℕ) → too_few f m ≡ true → goes_before m l ≡ false

-- the answer: that set, or none where there is no such set
abbrev pub Reason : Floating → List ℕ → Type 0
Reason f [] = (m : List ℕ) → too_few f m ≡ true → ⊥
Reason f (i ∷ l) = Smallest f (i ∷ l)
