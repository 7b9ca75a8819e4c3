-- The sign of a number of 64 bits. Assumes nothing.
use mathlib.Core.Path.{◌≡◌, refl, ap, ◌∙◌}
use native.Mathlib.Omega.{arith}
use lib.IntN.{ℤ, pos, negsuc}
use lib.Signed.{lt_z}
use mir.Syntax.{w64}
use mir.Val.{SFits, to_z, of_z}
use mir.Facts.{to_z-of_z}
use borrow.Author.Tests.{le-ltb}
use Rattle.scope.specs.Layout.{is_negative}

below_zero : (m : ℤ) → lt_z m (pos 0) ≡ is_negative m
below_zero (pos n) = le-ltb n 0 (omega arith)
below_zero (negsuc n) = refl

pub tested : (m : ℤ) → SFits w64 m → lt_z (to_z w64 (of_z w64 m)) (pos 0) ≡ is_negative m
tested m f = ap (λ z. lt_z z (pos 0)) (to_z-of_z f) ∙ below_zero m
