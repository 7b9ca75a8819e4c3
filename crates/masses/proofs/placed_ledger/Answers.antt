use native.Mathlib.Omega.{arith}
use Rattle.masses.proofs.LedgerLaws.{placing_start, placing_next, placing_end}
use Rattle.masses.proofs.placed_ledger.Goals as goal

pub loop-k-preserved : goal.loop-k-preserved
loop-k-preserved c =
    let v = c.loop-k.invariant in
    placing_next v (omega arith) c.book_placed.ensures

pub loop-k-init : goal.loop-k-init
loop-k-init c = placing_start c.requires c.brackets-n.ensures.0

pub returns : goal.returns
returns c =
    let v = c.loop-k.invariant in
    placing_end v (omega arith)
