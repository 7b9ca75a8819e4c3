-- The unit of the last decimal is a power of ten, and as an `i64` the same number: so the machine divides and multiplies as 01 does.
use Rattle.masses.proofs.Whole.{can_divide, to_decimals_is}
use Rattle.masses.proofs.to_decimals.Goals as goal

pub nonzero_div-result : goal.nonzero_div-result
nonzero_div-result c = can_divide c.args.m c.args.decimals c.requires.0 c.power-u.ensures

pub returns : goal.returns
returns c = to_decimals_is c.args.m c.args.decimals c.requires.0 c.power-u.ensures
