-- Where floaters stand while one of them seeks a place: `ok s x` says whether floater s may stand at x, and `w s` is where s stands.
use Rattle.std.specs.Prelude.{◌≡◌, Bool, true, ℕ, ◌<◌, ◌≤◌}
use Rattle.placement_laws.specs.Standing.{Same}

-- the first k floaters all stand but j, each where it may, no two on one position
pub record But (ok : ℕ → ℕ → Bool) (k j : ℕ) (w : ℕ → ℕ) : Type 0 where
  pub fits : (s : ℕ) → s < k → (s ≡ j → ⊥) → ok s (w s) ≡ true
  pub apart : (s t : ℕ) → s < k → t < k → (s ≡ j → ⊥) → (t ≡ j → ⊥) → w s ≡ w t → s ≡ t

-- nobody but j stands at x
abbrev pub FreeBut : ℕ → ℕ → (ℕ → ℕ) → ℕ → Type 0
FreeBut k j w x = (t : ℕ) → t < k → (t ≡ j → ⊥) → w t ≡ x → ⊥

-- the floaters that may have to move: the first is j, without a place; each other stands where an earlier one may
pub record Grown (ok : ℕ → ℕ → Bool) (k f j : ℕ) (w : ℕ → ℕ) (n : ℕ) (order parent : ℕ → ℕ) : Type 0 where
  pub some : 0 < n
  pub root : order 0 ≡ j
  pub low : (a : ℕ) → a < n → f ≤ order a
  pub high : (a : ℕ) → a < n → order a < k
  pub apart : (a b : ℕ) → a < n → b < n → order a ≡ order b → a ≡ b
  pub back : (a : ℕ) → 0 < a → a < n → parent a < a
  pub wants : (a : ℕ) → 0 < a → a < n → ok (order (parent a)) (w (order a)) ≡ true

-- on the way from a to the first: a is to take x, where nobody stands now
pub record Shifting (ok : ℕ → ℕ → Bool) (k f j : ℕ) (w₀ : ℕ → ℕ) (n : ℕ) (order : ℕ → ℕ) (a x : ℕ) (w : ℕ → ℕ) : Type 0 where
  pub but : But ok k j w
  pub clear : FreeBut k j w x
  pub may : ok (order a) x ≡ true
  pub inside : a < n
  pub kept : (b : ℕ) → b ≤ a → w (order b) ≡ w₀ (order b)
  pub same : Same f w₀ w
