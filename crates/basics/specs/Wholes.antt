-- Sizes of whole numbers: `omega` reads no ℤ, and a size, `nat_abs`, is a ℕ.
use Rattle.std.specs.Prelude.{◌≡◌, refl, Bool, true, false, cond, ℕ, zero, suc, ◌+◌, ◌-◌, ◌*◌, ◌≤◌, ltb, ℤ, pos, negsuc, nat_abs, neg_ℤ, ◌+ℤ◌, ◌*ℤ◌}
use Rattle.std.proofs.Common.{arith, ltb-true}
use Rattle.scope.specs.Tables.{signed}

sub_by : (a b : ℕ) (t : Bool) → ltb a b ≡ t → nat_abs (cond t (negsuc (b - suc a)) (pos (a - b))) ≤ a + b
sub_by a b true e = omega (arith, ltb-true a b e)
sub_by a b false e = omega arith

-- the size of a sum is at most the sizes' sum
pub abs_add : (x y : ℤ) → nat_abs (x +ℤ y) ≤ nat_abs x + nat_abs y
abs_add (pos a) (pos b) = omega arith
abs_add (pos a) (negsuc b) = sub_by a (suc b) (ltb a (suc b)) refl
abs_add (negsuc a) (pos b) = omega (arith, sub_by b (suc a) (ltb b (suc a)) refl)
abs_add (negsuc a) (negsuc b) = omega arith

pub abs_neg : (z : ℤ) → nat_abs (neg_ℤ z) ≡ nat_abs z
abs_neg (pos zero) = refl
abs_neg (pos (suc n)) = refl
abs_neg (negsuc n) = refl

pub abs_mul : (c : ℕ) (z : ℤ) → nat_abs (pos c *ℤ z) ≡ c * nat_abs z
abs_mul c (pos b) = refl
abs_mul c (negsuc b) = abs_neg (pos (c * suc b))

pub abs_signed : (t : Bool) (n : ℕ) → nat_abs (signed t n) ≡ n
abs_signed true n = abs_neg (pos n)
abs_signed false n = refl
