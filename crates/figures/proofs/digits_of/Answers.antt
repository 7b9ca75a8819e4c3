-- The size of a number over the power of ten for the decimals that it lacks. Assumes nothing.
use mathlib.Core.Path.{ap, ap₂, ◌∙◌}
use Prim.Native.Nat.{◌/◌}
use lib.IntN.{nat_abs}
use mir.Facts.{to_z-of_z}
use Rattle.tens.proofs.Powers.{power_some}
use Rattle.figures.proofs.digits_of.Goals as goal

pub nonzero_div-result : goal.nonzero_div-result
nonzero_div-result c = rw c.power.ensures (power_some _)

pub returns : goal.returns
returns c = ap₂ ◌/◌ (c.magnitude.ensures ∙ ap nat_abs (to_z-of_z c.ranges.m)) c.power.ensures
