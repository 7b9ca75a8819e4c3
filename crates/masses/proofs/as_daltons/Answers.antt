-- `masses::as_daltons` meets its contract: the cast loses nothing, and the divisor is a million. Assumes nothing.
use borrow.Author.Rules.{rules}
use lib.Ieee.{div, of_int, of_bits}
use mir.Syntax.{w64}
use mir.ValLaws.{to_z-of_z}
use Rattle.mass_laws.proofs.Exact.{exact}
use Rattle.masses.proofs.as_daltons.Goals as goal

pub int_to_float-result : goal.int_to_float-result
int_to_float-result c = rw (to_z-of_z w64 c.args.total c.ranges.total) (exact c.args.total c.requires)

pub returns : goal.returns
unfolding div of_int of_bits
returns c = search rules
