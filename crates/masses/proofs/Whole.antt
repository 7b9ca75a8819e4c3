-- Whole numbers of the machine. `omega` reads no ℤ: a size, `nat_abs`, is a ℕ, and what follows is said of sizes. Assumes nothing.
use mathlib.Core.Path.{◌≡◌, refl, ap, ◌∙◌}
use Prim.Native.Nat.{ℕ, zero, suc, ◌-◌, ◌*◌, ◌/◌, ◌^◌, ◌≤◌, ◌<◌}
use native.Mathlib.Nat.{div-le_self, div-mul-le_self, zero-mul}
use native.Mathlib.Omega.{arith}
use lib.IntN.{ℤ, pos, negsuc, nat_abs, neg_ℤ, ◌*ℤ◌}
use lib.Signed.{quot_z}
use mir.Syntax.{w64}
use mir.Val.{SFits, to_z, of_z}
use mir.ValLaws.{to_z-of_z, to_z_pos}
use Rattle.scope.specs.Limits.{decimal_limit}
use Rattle.scope.specs.Tables.{signed, millionths}
use Rattle.scope.specs.Layout.{is_negative, number_in}
use Rattle.tens.proofs.Powers.{power_some, power_few}
use Rattle.mass_laws.specs.Terms.{mass_limit}
use Rattle.basics.specs.Wholes.{abs_neg, abs_signed}

-- a small size fits an `i64`, and is read back from its bits
pub abs_fits : (z : ℤ) → nat_abs z < 2 ^ 63 → SFits w64 z
abs_fits (pos n) h = record { sfits = h }
abs_fits (negsuc n) h = record { sfits = omega arith }

pub back : (z : ℤ) → nat_abs z < 2 ^ 63 → to_z w64 (of_z w64 z) ≡ z
back z h = to_z-of_z w64 z (abs_fits z h)

-- ---- a number to so many decimals
neg_mul : (n p : ℕ) → neg_ℤ (pos n) *ℤ pos p ≡ neg_ℤ (pos (n * p))
neg_mul zero p = rw (zero-mul p)
neg_mul (suc n) p = refl

cut : (m : ℤ) (p : ℕ) → quot_z m (pos p) *ℤ pos p ≡ signed (is_negative m) (nat_abs m / p * p)
cut (pos a) p = refl
cut (negsuc a) p = neg_mul (suc a / p) p

abs_quot : (m : ℤ) (p : ℕ) → nat_abs (quot_z m (pos p)) ≤ nat_abs m
abs_quot (pos a) p = div-le_self a p
abs_quot (negsuc a) p = rw (abs_neg (pos (suc a / p))) (div-le_self (suc a) p)

abs_cut : (m : ℤ) (p : ℕ) → nat_abs (quot_z m (pos p) *ℤ pos p) ≤ nat_abs m
abs_cut m p = rw (cut m p, abs_signed (is_negative m) (nat_abs m / p * p)) (div-mul-le_self (nat_abs m) p)

-- the machine divides by the unit, and multiplies again
module _ (m : ℤ) (d : ℕ) (small : nat_abs m < mass_limit) {u : ℕ} (e : u ≡ 10 ^ (decimal_limit - d)) where
  unit_small : u < 2 ^ 63
  unit_small = rw e (omega (arith, power_few decimal_limit d))

  unit_back : to_z w64 u ≡ pos (10 ^ (decimal_limit - d))
  unit_back = to_z_pos w64 u unit_small ∙ ap pos e

  mass_back : to_z w64 (of_z w64 m) ≡ m
  mass_back = back m (omega arith)

  quot_small : nat_abs (quot_z m (pos (10 ^ (decimal_limit - d)))) < 2 ^ 63
  quot_small = omega (arith, abs_quot m (10 ^ (decimal_limit - d)))

  pub can_divide : (0 < u) × SFits w64 (quot_z (to_z w64 (of_z w64 m)) (to_z w64 u))
  can_divide = (rw e (power_some (decimal_limit - d)), rw (unit_back, mass_back) (abs_fits (quot_z m (pos (10 ^ (decimal_limit - d)))) quot_small))

  quot_back : to_z w64 (of_z w64 (quot_z (to_z w64 (of_z w64 m)) (to_z w64 u))) ≡ quot_z m (pos (10 ^ (decimal_limit - d)))
  quot_back = rw (unit_back, mass_back) (back (quot_z m (pos (10 ^ (decimal_limit - d)))) quot_small)

  product_small : nat_abs (quot_z m (pos (10 ^ (decimal_limit - d))) *ℤ pos (10 ^ (decimal_limit - d))) < 2 ^ 63
  product_small = omega (arith, abs_cut m (10 ^ (decimal_limit - d)))

  pub to_decimals_is : to_z w64 (of_z w64 (to_z w64 (of_z w64 (quot_z (to_z w64 (of_z w64 m)) (to_z w64 u))) *ℤ to_z w64 u)) ≡ millionths (number_in m d)
  to_decimals_is =
      rw (quot_back, unit_back)
      (back (quot_z m (pos (10 ^ (decimal_limit - d))) *ℤ pos (10 ^ (decimal_limit - d))) product_small ∙ cut m (10 ^ (decimal_limit - d)))
