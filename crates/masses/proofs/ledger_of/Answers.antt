use native.Mathlib.Omega.{arith}
use Rattle.masses.proofs.LedgerLaws.{floating_start, floating_next, floating_end}
use Rattle.masses.proofs.ledger_of.Goals as goal

pub loop-k-preserved : goal.loop-k-preserved
loop-k-preserved c =
    let v = c.loop-k.invariant in
    floating_next v (omega arith) c.book_bracket-i.ensures

pub loop-k-init : goal.loop-k-init
loop-k-init c =
    let p = c.placed_ledger-l.ensures in
    floating_start c.requires p c.brackets-n.ensures.0

pub returns : goal.returns
returns c =
    let v = c.loop-k.invariant in
    floating_end v (omega arith)
