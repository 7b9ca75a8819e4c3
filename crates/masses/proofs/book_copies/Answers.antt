use mathlib.Core.Path.{refl}
use native.Mathlib.Omega.{arith}
use mir.Syntax.{w64}
use mir.ValLaws.{to_z-of_z}
use Rattle.masses.proofs.LedgerLaws.{putting_again, putting_end}
use Rattle.masses.proofs.book_copies.Goals as goal

pub loop-j-preserved : goal.loop-j-preserved
loop-j-preserved c = putting_again c.loop-j.invariant (omega arith) refl c.book.ensures

pub returns : goal.returns
returns c = putting_end c.loop-j.invariant (omega arith) (to_z-of_z w64 c.args.m c.ranges.m)
