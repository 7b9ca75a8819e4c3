-- What is asked of the least placement.
use Rattle.std.specs.Prelude.{◌≡◌, Bool, true, false, ℕ, ◌<◌, ◌≤◌, Option, MatchOption}
use Rattle.placement_laws.specs.Standing.{place, Full, Good, Same, Before, Upto}
use Rattle.exchange.specs.declared.Standing.{Standing}

-- A where the test says yes, B where no
abbrev pub Verdict : Bool → Type 0 → Type 0 → Type 0
Verdict true A B = A
Verdict false A B = B

module _ (ok : ℕ → ℕ → Bool) (k : ℕ) where
  -- i stands at y, those below i unmoved; or nothing does that
  abbrev pub Tried : ℕ → ℕ → (ℕ → ℕ) → Option Standing → Type 0
  Tried i y w r =
      MatchOption r ((u : ℕ → ℕ) → Full ok k u → Same i w u → u i ≡ y → ⊥) (λ v. Full ok k (place v.at) × Same i w (place v.at) × (place v.at i ≡ y))

  -- i at its least, those below i unmoved
  abbrev pub Lowered : ℕ → (ℕ → ℕ) → (ℕ → ℕ) → Type 0
  Lowered i w v = Full ok k v × Same i w v × ((u : ℕ → ℕ) → Full ok k u → Same i w u → v i ≤ u i)

  -- the same, or i cannot stand below `to`
  abbrev pub Sought : ℕ → ℕ → (ℕ → ℕ) → Option Standing → Type 0
  Sought i to w r = MatchOption r ((u : ℕ → ℕ) → Full ok k u → Same i w u → u i < to → ⊥) (λ v. Lowered i w (place v.at))

  -- the least one that agrees with w below `from`
  abbrev pub Settled : ℕ → (ℕ → ℕ) → (ℕ → ℕ) → Type 0
  Settled from w v = Full ok k v × Same from w v × ((u : ℕ → ℕ) → Full ok k u → Same from w u → Upto k v u)

  -- the least one, or there is none
  abbrev pub IsFirst : Option Standing → Type 0
  IsFirst r =
      MatchOption r ((u : ℕ → ℕ) → Full ok k u → ⊥) (λ v. Full ok k (place v.at) × ((u : ℕ → ℕ) → Full ok k u → Upto k (place v.at) u))

-- the least one with its copies in order after w, or there is none
abbrev pub Next : (ℕ → ℕ → Bool) → (ℕ → Bool) → ℕ → (ℕ → ℕ) → Option Standing → Type 0
Next ok mark k w r =
    MatchOption r ((u : ℕ → ℕ) → Good ok mark k u → Before k w u → ⊥)
    (λ v. Good ok mark k (place v.at) × Before k w (place v.at) × ((u : ℕ → ℕ) → Good ok mark k u → Before k w u → Upto k (place v.at) u))
