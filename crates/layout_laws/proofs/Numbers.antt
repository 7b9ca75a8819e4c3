-- A mass or score in millionths: its number is read back from it, and its size is bounded.
use Rattle.std.specs.Prelude.{◌≡◌, refl, Bool, true, false, ℕ, zero, suc, ◌+◌, ◌-◌, ◌*◌, ◌/◌, ◌^◌, ◌≤◌, ◌<◌, leb}
use Rattle.std.proofs.Common.{sym, ap, ap₂, ◌∙◌, arith, mul-pos, mul_assoc, mul-div_cancel, mul-lt-mul_of_pos_right, pow-add, leb-true, ltb-true}
use Rattle.std.proofs.Math.Nat.{one-le-pow}
use Rattle.scope.specs.Limits.{size_limit, decimal_limit}
use Rattle.scope.specs.Line.{Number}
use Rattle.scope.specs.Tables.{bare_number, signed, millionths}
use Rattle.scope.specs.Layout.{is_negative, number_in}
use Rattle.areas.specs.Bounds.{Small}
use Rattle.basics.specs.Tests.{and_left, and_right}
use Rattle.accepted_laws.specs.Within.{NumberWithin}
use Rattle.basics.specs.Wholes.{abs_signed}

sign_back : (s : Bool) (m : ℕ) → (s ≡ true → 0 < m) → is_negative (signed s m) ≡ s
sign_back true zero h = let z : 0 < 0 = h refl in absurd (omega arith)
sign_back true (suc m) h = refl
sign_back false m h = refl

tens : (d : ℕ) → 0 < 10 ^ d
tens d = one-le-pow d 10 (omega arith)

module _ {P : Type 0} (n : Number P) (w : NumberWithin n) where
  pub few_decimals : n.decimals ≤ decimal_limit
  few_decimals = leb-true n.decimals decimal_limit (and_left _ _ w.range)

  pub number_back : number_in (millionths n) n.decimals ≡ bare_number n
  number_back =
      ap₂ (λ a b. record { minus = a; digits = b; decimals = n.decimals; at = tt })
      (sign_back n.minus (n.digits * 10 ^ (decimal_limit - n.decimals)) (λ e. mul-pos (w.sign e) (tens (decimal_limit - n.decimals))))
      (ap (λ z. z / 10 ^ (decimal_limit - n.decimals)) (abs_signed n.minus (n.digits * 10 ^ (decimal_limit - n.decimals))) ∙ mul-div_cancel n.digits
      (tens (decimal_limit - n.decimals)))

  full : size_limit * 10 ^ n.decimals * 10 ^ (decimal_limit - n.decimals) ≡ size_limit * 10 ^ decimal_limit
  full =
      mul_assoc size_limit (10 ^ n.decimals) (10 ^ (decimal_limit - n.decimals))
      ∙ ap (λ z. size_limit * z) (sym (pow-add 10 n.decimals (decimal_limit - n.decimals)))
      ∙ ap (λ z. size_limit * 10 ^ z) (sum few_decimals)
    where
      sum : n.decimals ≤ decimal_limit → n.decimals + (decimal_limit - n.decimals) ≡ decimal_limit
      sum h = omega arith

  pub small : Small (millionths n)
  small =
      rw (abs_signed n.minus (n.digits * 10 ^ (decimal_limit - n.decimals)))
      (rw full at
      (mul-lt-mul_of_pos_right (ltb-true n.digits (size_limit * 10 ^ n.decimals) (and_right (leb n.decimals decimal_limit) _ w.range))
      (tens (decimal_limit - n.decimals))))
