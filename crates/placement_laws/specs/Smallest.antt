-- The smallest set of floaters with too few positions, and among equals the first by floater order; a set is a test on numbers from 0 on. No search is run here.
use Rattle.std.specs.Prelude.{◌≡◌, ◌⊎◌, Bool, true, false, ℕ, ◌<◌}
use Rattle.scope.specs.Limits.{position_limit}
use Rattle.placement_laws.specs.Counts.{count}
use Rattle.placement_laws.specs.Hall.{Short}

-- the same sets below k
abbrev pub SameBelow : ℕ → (ℕ → Bool) → (ℕ → Bool) → Type 0
SameBelow k m p = (s : ℕ) → s < k → m s ≡ p s

-- m comes before p by floater order: the first floater on which they differ is in m
pub record Earlier (k : ℕ) (m p : ℕ → Bool) : Type 0 where
  pub d : ℕ
  pub inside : d < k
  pub same : SameBelow d m p
  pub here : m d ≡ true
  pub there : p d ≡ false

-- m, of n floaters, is smaller than p, or as small and no later
abbrev pub Beats : ℕ → ℕ → (ℕ → Bool) → (ℕ → Bool) → Type 0
Beats k n m p = (n < count k p) ⊎ ((n ≡ count k p) × (SameBelow k m p ⊎ Earlier k m p))

-- m, of n floaters, has too few positions, and beats every set that has
pub record SmallestOf (ok : ℕ → ℕ → Bool) (k n : ℕ) (m : ℕ → Bool) : Type 0 where
  pub size : n ≡ count k m
  pub short : Short ok k position_limit m
  pub least : (p : ℕ → Bool) → Short ok k position_limit p → Beats k n m p
