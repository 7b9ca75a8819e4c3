use mathlib.Core.Path.{◌∙◌}
use native.Mathlib.Omega.{arith}
use mir.Syntax.{w64}
use mir.ValLaws.{to_z-of_z}
use Rattle.masses.proofs.LedgerLaws.{naming_one, naming_none, naming_end}
use Rattle.masses.proofs.book_named.Goals as goal
use Rattle.masses.proofs.book_named.Goals.{then-names, else-names}

pub loop-x-preserved : goal.loop-x-preserved
loop-x-preserved c =
    let told = c.names.ensures in
    elim c.if-names.branch [
      | then-names w ↦ naming_one c.loop-x.invariant (omega arith) told w.if-names.true (w.l-is ∙ w.book.ensures)
      | else-names w ↦ rw w.l-is (naming_none c.loop-x.invariant (omega arith) told w.if-names.false)
    ]

pub returns : goal.returns
returns c = naming_end c.loop-x.invariant (omega arith) (to_z-of_z w64 c.args.m c.ranges.m)
