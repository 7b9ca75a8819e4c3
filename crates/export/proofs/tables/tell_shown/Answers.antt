-- `export::tables::tell_shown` meets its contract: 0.0 is no millionths in daltons.
use mathlib.Core.Path.{refl}
use lib.Ieee.{div, of_int, of_bits}
use Rattle.export.proofs.tables.tell_shown.Goals as goal

pub returns-in-Missing : goal.returns-in-Missing
unfolding div of_int of_bits
returns-in-Missing c = rw c.in-Missing.is (record { number_is = refl; mass_is = refl; missing_is = refl })
