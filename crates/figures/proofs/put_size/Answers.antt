-- The whole number, then the decimals. Assumes nothing.
use Rattle.figures.proofs.Storing.{puts_of, puts_join}
use Rattle.figures.proofs.Digits.{size_text}
use Rattle.tens.proofs.Powers.{power_some}
use Rattle.figures.proofs.put_size.Goals as goal

pub nonzero_div-n : goal.nonzero_div-n
nonzero_div-n c = rw c.power.ensures (power_some _)

pub returns : goal.returns
returns c = puts_of (size_text c.args.minus _ _ _ c.power.ensures) (puts_join c.put_whole-a.ensures c.put_decimals.ensures)
