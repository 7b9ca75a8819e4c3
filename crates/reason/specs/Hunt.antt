-- What the search for the smallest set keeps, and what its steps promise.
use Rattle.std.specs.Prelude.{◌≡◌, ◌⊎◌, Bool, ◌&&◌, ◌||◌, List, ℕ, ◌<◌, ◌≤◌}
use Rattle.scope.specs.Limits.{position_limit}
use Rattle.areas.specs.Floats.{Sized}
use Rattle.placement_laws.specs.Counts.{count, some}
use Rattle.placement_laws.specs.Hall.{Short}
use Rattle.exchange.specs.Table.{may_in}
use Rattle.placement_laws.specs.Smallest.{SameBelow, Beats}
use Rattle.reason.specs.Smallest.{marked_in}

-- the positions of those of m that are below k
abbrev pub union : (ℕ → ℕ → Bool) → ℕ → (ℕ → Bool) → ℕ → Bool
union ok k m x = some k (λ s. m s && ok s x)

-- the first i floaters are decided: n of them are in the set, and their positions, c in number, are in the cover
pub record Hunting (tab : List ℕ) (k i n : ℕ) (marks : List Bool) (c : ℕ) (cover : List Bool) : Type 0 where
  pub sized : Sized tab k
  pub inside : i ≤ k
  pub size : n ≡ count i (marked_in marks)
  pub covers : SameBelow position_limit (marked_in cover) (union (may_in tab) i (marked_in marks))
  pub many : c ≡ count position_limit (marked_in cover)

-- the cover, with the positions of floater i
pub record Joined (tab : List ℕ) (i : ℕ) (cover : List Bool) (c' : ℕ) (cover' : List Bool) : Type 0 where
  pub all : (x : ℕ) → x < position_limit → marked_in cover' x ≡ (marked_in cover x || may_in tab i x)
  pub many : c' ≡ count position_limit (marked_in cover')

-- r, of n floaters, has too few positions, has the first i floaters as m has them, and is smaller than the best
pub record Won (ok : ℕ → ℕ → Bool) (k i : ℕ) (m : ℕ → Bool) (best n : ℕ) (r : ℕ → Bool) : Type 0 where
  pub size : n ≡ count k r
  pub short : Short ok k position_limit r
  pub agree : SameBelow i m r
  pub less : n < best

-- the best is kept or beaten, and what is answered beats every set that has the first i floaters as m has them, or no such set is smaller than the best
pub record Hunted (ok : ℕ → ℕ → Bool) (k i : ℕ) (m : ℕ → Bool) (best : ℕ) (b : List Bool) (n : ℕ) (r : List Bool) : Type 0 where
  pub won : ((n ≡ best) × (r ≡ b)) ⊎ Won ok k i m best n (marked_in r)
  pub least : (p : ℕ → Bool) → Short ok k position_limit p → SameBelow i m p → Beats k n (marked_in r) p ⊎ ((n ≡ best) × (r ≡ b) × (best ≤ count k p))
