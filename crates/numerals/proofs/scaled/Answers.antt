-- A law of Ranges for each arm: too many decimals, too large, in range.
use mathlib.Core.Path.{◌∙◌}
use mir.Syntax.{w64}
use mir.Facts.{to_z-of_z}
use Rattle.numerals.proofs.Ranges.{scaled_fits, wide_decimals, wide_size, in_range_lem}
use Rattle.numerals.proofs.scaled.Goals as goal

pub returns-then-d-gt-DECIMALS : goal.returns-then-d-gt-DECIMALS
returns-then-d-gt-DECIMALS c p m e = wide_decimals p c.args.minus m _ c.if-d-gt-DECIMALS.true

pub overflow_mul-m : goal.overflow_mul-m
overflow_mul-m c = record { fits = scaled_fits c.args.d c.requires c.power.ensures }

pub returns-then-m-ge-CAP : goal.returns-then-m-ge-CAP
returns-then-m-ge-CAP c =
    λ p m e.
    wide_size p c.args.minus m _ _ e c.if-d-gt-DECIMALS.false c.power.ensures c.if-m-ge-CAP.true

pub returns : goal.returns
returns c =
    λ p m e.
    in_range_lem p c.args.minus m _ _ e c.if-d-gt-DECIMALS.false c.power.ensures c.if-m-ge-CAP.false
    (to_z-of_z {w = w64} {z = c.with_sign.result} (record { sfits = c.with_sign.type_inv }) ∙ c.with_sign.ensures)
