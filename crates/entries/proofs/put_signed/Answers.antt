-- `entries::put_signed` meets its contract: the sign, and the number behind it. Assumes nothing.
use mir.Facts.{to_z-of_z}
use Rattle.figures.proofs.Storing.{puts_of, puts_join}
use Rattle.entries.proofs.Texts.{sign_then}
use Rattle.entries.proofs.put_signed.Goals as goal

pub returns : goal.returns
returns c = puts_of (sign_then (to_z-of_z c.ranges.m) c.magnitude.ensures c.sign.ensures) (puts_join c.put-a.ensures c.put_decimal.ensures)
