-- A whole number of the total's size is a double with nothing lost: cast back, it is the number.
use Rattle.std.specs.Prelude.{◌≡◌, ◌^◌, ◌<◌, T, ℤ, pos, negsuc, nat_abs}
use Rattle.std.proofs.Common.{arith, le→leb, lt→ltb}
use Rattle.std.specs.Float.{binary64}
use Rattle.std.specs.Float.Ieee.{in_float, of_int, to_signed}
use Rattle.mass_laws.specs.Terms.{total_limit}
use Rattle.std.specs.Float.Ieee.Back.{positive_back, negative_back}

pub exact : (z : ℤ) → nat_abs z < total_limit → T (in_float binary64 z)
unfolding in_float
exact (pos n) h = le→leb n (2 ^ 53) (omega arith)
exact (negsuc n) h = lt→ltb n (2 ^ 53) (omega arith)

pub cast_back : (z : ℤ) → nat_abs z < total_limit → to_signed 63 (of_int binary64 z) ≡ z
cast_back (pos n) h = (positive_back binary64 63 n (exact (pos n) h) (omega arith)).1
cast_back (negsuc n) h = (negative_back binary64 63 n (exact (negsuc n) h) (omega arith)).1
