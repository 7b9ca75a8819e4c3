-- When a number is in range, by its digits kept at the cap or below. Assumes nothing.
use Prim.Native.Nat.{ℕ, ◌-◌, ◌*◌, ◌^◌, ◌≤◌, ◌<◌, min}
use mathlib.Core.Path.{◌≡◌, refl, sym, ap, ap₂, subst, ◌∙◌}
use mathlib.Core.Bool.{Bool, true, false, not, ◌&&◌, and-true}
use native.Mathlib.Omega.{arith}
use native.Mathlib.Nat.{zero-mul, mul_assoc, mul-le-mul, mul-lt-mul_of_pos_right, le_of_mul-le-mul_right, lt_of_mul-lt-mul_right}
use lib.Dec.{eqb}
use lib.IntN.{ℤ}
use borrow.Author.Tests.{lt-ltb, le-ltb, le-leb, lt-leb, eqb-true}
use Rattle.scope.specs.Content.{number_of}
use Rattle.scope.specs.Limits.{size_limit, decimal_limit}
use Rattle.scope.specs.Tables.{signed}
use Rattle.tens.proofs.Powers.{power_some, power_up, power_few, power_split}
use Rattle.scope.specs.declared.tables.Number.{Number as Kept}
use Rattle.std.specs.Prelude.{Option, Some, None}
use Rattle.numerals.specs.Numerals.{cap, kept_in_range}

-- ---- the cap, with d decimals before those that are left
cap_split : {d : ℕ} → d ≤ decimal_limit → cap ≡ size_limit * 10 ^ d * 10 ^ (decimal_limit - d)
cap_split {d} l = ap (λ n. size_limit * n) (power_split l) ∙ sym (mul_assoc size_limit (10 ^ d) (10 ^ (decimal_limit - d)))

pub below_cap : {m d : ℕ} → d ≤ decimal_limit → m < size_limit * 10 ^ d → m * 10 ^ (decimal_limit - d) < cap
below_cap {m} {d} l h = subst (λ n. m * 10 ^ (decimal_limit - d) < n) (sym (cap_split l)) (mul-lt-mul_of_pos_right h (power_some (decimal_limit - d)))

-- the millionths of digits that are kept at the cap fit
pub scaled_fits : {v p : ℕ} (d : ℕ) → v ≤ cap → p ≡ 10 ^ (decimal_limit - d) → v * p < 2 ^ 64
scaled_fits {v} {p} d h e =
    let few : p ≤ 10 ^ decimal_limit = rw e (power_few decimal_limit d) in
    omega (arith, mul-le-mul h few)

module _ (v m : ℕ) (e : v ≡ min cap m) {d : ℕ} (l : d ≤ decimal_limit) where
  over : cap ≤ v * 10 ^ (decimal_limit - d) → size_limit * 10 ^ d ≤ m
  over h =
      let k = le_of_mul-le-mul_right (subst (λ n. n ≤ v * 10 ^ (decimal_limit - d)) (cap_split l) h) (power_some (decimal_limit - d)) in
      omega arith

  under : v * 10 ^ (decimal_limit - d) < cap → (m < size_limit * 10 ^ d) × (v ≡ m)
  under h =
      let k = lt_of_mul-lt-mul_right (10 ^ (decimal_limit - d)) (subst (λ n. v * 10 ^ (decimal_limit - d) < n) (cap_split l) h) in
      let few = power_up l in
      (omega arith, omega arith)

-- "The sign of zero .. not kept"
of_zero : (s : Bool) → signed s 0 ≡ signed (s && false) 0
of_zero true = refl
of_zero false = refl

sign_kept : (s : Bool) (m k : ℕ) → signed s (m * k) ≡ signed (s && not (eqb m 0)) (m * k)
sign_kept s m k = go (eqb m 0) refl
  where
    go : (x : Bool) → eqb m 0 ≡ x → signed s (m * k) ≡ signed (s && not x) (m * k)
    go true e =
        let z : m * k ≡ 0 = ap (λ n. n * k) (eqb-true m 0 e) ∙ zero-mul k in
        rw z (of_zero s)
    go false e = ap (λ b. signed b (m * k)) (sym (and-true s))

abbrev some_kept : ℤ → ℕ → Option Kept
some_kept z d = Some (record { millionths = z; decimals = d })

module _ (p : ℕ) (s : Bool) (m d : ℕ) where
  pub wide_decimals : decimal_limit < d → None ≡ kept_in_range (number_of p s m d)
  wide_decimals h = simp (lt-leb _ _ h)

  -- u is what one more of the last digit makes, in millionths
  module _ (v : ℕ) (e : v ≡ min cap m) (l : d ≤ decimal_limit) {u : ℕ} (q : u ≡ 10 ^ (decimal_limit - d)) where
    pub wide_size : cap ≤ v * u → None ≡ kept_in_range (number_of p s m d)
    wide_size h = simp (le-leb _ _ l, le-ltb _ _ (over v m e l (rw q at h)))

    pub in_range_lem : v * u < cap → {x : ℤ} → x ≡ signed s (v * u) → Some (record { millionths = x; decimals = d }) ≡ kept_in_range (number_of p s m d)
    in_range_lem h f =
        let b = under v m e l (rw q at h) in
        rw (le-leb _ _ l, lt-ltb _ _ b.0)
        (ap (λ (z : ℤ). some_kept z d)
        (f ∙ ap₂ (λ n k. signed s (n * k)) b.1 q ∙ sign_kept s m (10 ^ (decimal_limit - d))))
