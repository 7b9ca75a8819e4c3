-- A sign, then the size. Assumes nothing.
use mathlib.Core.Path.{ap, ◌∙◌}
use Prim.Native.Nat.{◌-◌, ◌/◌, ◌^◌}
use lib.IntN.{nat_abs}
use mir.Facts.{to_z-of_z}
use Rattle.scope.specs.Limits.{decimal_limit}
use Rattle.scope.specs.Layout.{is_negative}
use Rattle.figures.proofs.Storing.{puts_of, puts_join}
use Rattle.figures.proofs.Digits.{number_text_lem}
use Rattle.figures.proofs.put_number.Goals as goal

pub returns : goal.returns
returns c =
    let a = c.args in
    let back = to_z-of_z c.ranges.m in
    puts_of
    (number_text_lem a.always a.m a.d (c.is_minus-minus.ensures ∙ ap is_negative back)
    (c.digits_of-n.ensures ∙ ap (λ m. nat_abs m / 10 ^ (decimal_limit - a.d)) back))
    (puts_join c.put_sign-a.ensures c.put_size.ensures)
