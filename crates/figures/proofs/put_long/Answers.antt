-- The leading digits, and the groups behind them. Assumes nothing.
use mathlib.Core.Path.{sym}
use Prim.Native.Nat.{◌*◌}
use native.Mathlib.Omega.{arith}
use Rattle.figures.specs.Written.{group_size}
use Rattle.figures.proofs.Digits.{decimal_behind}
use Rattle.figures.proofs.Storing.{puts_of, puts_within, puts_join}
use Rattle.figures.proofs.Progress.{grouped_few, lead_short, lead_few}
use Rattle.tens.proofs.Powers.{power_some}
use Rattle.figures.proofs.put_long.Goals as goal

pub overflow_mul-g : goal.overflow_mul-g
overflow_mul-g c = omega (arith, grouped_few _ _ c.requires.0)

pub nonzero_div-lead : goal.nonzero_div-lead
nonzero_div-lead c = rw c.power.ensures (power_some _)

pub power-requires : goal.power-requires
power-requires c = grouped_few _ _ c.requires.0

pub digits_in-requires : goal.digits_in-requires
digits_in-requires c = rw c.power.ensures (lead_short _ _ c.requires.0)

pub put_digits-a-requires : goal.put_digits-a-requires
put_digits-a-requires c =
    let digits = rw c.power.ensures at c.digits_in.ensures in
    (digits.least 5 (lead_short _ _ c.requires.0), omega (arith, lead_few _ _ c.requires.0 digits, c.requires.1))

pub put_groups-requires : goal.put_groups-requires
put_groups-requires c =
    let digits = rw c.power.ensures at c.digits_in.ensures in
    (grouped_few _ _ c.requires.0, omega (arith, lead_few _ _ c.requires.0 digits, c.put_digits-a.ensures.near, c.requires.1))

pub returns : goal.returns
returns c =
    let h = c.requires.0 in
    let digits = rw c.power.ensures at c.digits_in.ensures in
    let lead = puts_of digits.whole (rw c.power.ensures at c.put_digits-a.ensures) in
    puts_of (sym (decimal_behind (group_size * c.args.g) _ h.0 h.2)) (puts_within (lead_few _ _ h digits) (puts_join lead c.put_groups.ensures))
