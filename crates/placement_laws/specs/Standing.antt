-- Where floaters stand, by number: `ok s x` says whether floater s may stand at x, `mark s` whether it is a further copy, and `w s` is where s stands.
use Rattle.std.specs.Prelude.{◌≡◌, ◌⊎◌, Bool, true, List, ℕ, ◌+◌, ◌<◌, get_or}

-- where a list of positions has them
abbrev pub place : List ℕ → ℕ → ℕ
place l s = get_or l s 0

-- the first k floaters all stand, each where it may, no two on one position
pub record Full (ok : ℕ → ℕ → Bool) (k : ℕ) (w : ℕ → ℕ) : Type 0 where
  pub fits : (s : ℕ) → s < k → ok s (w s) ≡ true
  pub apart : (s t : ℕ) → s < k → t < k → w s ≡ w t → s ≡ t

-- "positions of one bracket's copies ascend": each further copy stands above the one before it
abbrev pub Ascent : (ℕ → Bool) → ℕ → (ℕ → ℕ) → Type 0
Ascent mark k w = (s : ℕ) → s + 1 < k → mark (s + 1) ≡ true → w s < w (s + 1)

-- both
pub record Good (ok : ℕ → ℕ → Bool) (mark : ℕ → Bool) (k : ℕ) (w : ℕ → ℕ) : Type 0 where
  pub full : Full ok k w
  pub ascent : Ascent mark k w

-- a further copy that stands below the one before it may change places with it: so it is where both may stand at the same positions
abbrev pub Alike : (ℕ → ℕ → Bool) → (ℕ → Bool) → ℕ → Type 0
Alike ok mark k =
    (s x y : ℕ) → s + 1 < k → mark (s + 1) ≡ true → ok s x ≡ true → ok (s + 1) y ≡ true → y < x → (ok s y ≡ true) × (ok (s + 1) x ≡ true)

-- the same below f
abbrev pub Same : ℕ → (ℕ → ℕ) → (ℕ → ℕ) → Type 0
Same f w v = (s : ℕ) → s < f → w s ≡ v s

-- w comes before v, and the first floater on which they differ is below i
pub record Before (i : ℕ) (w v : ℕ → ℕ) : Type 0 where
  pub d : ℕ
  pub inside : d < i
  pub same : Same d w v
  pub less : w d < v d

-- w is v up to k, or comes before it
abbrev pub Upto : ℕ → (ℕ → ℕ) → (ℕ → ℕ) → Type 0
Upto k w v = Same k w v ⊎ Before k w v
