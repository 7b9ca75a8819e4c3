-- `export::tables::hwemiduk_why_none` meets its contract: 13, or what the call says, with the numbers of the set copied where it answers one. Assumes nothing.
use mathlib.Core.Path.{◌≡◌}
use native.Mathlib.Omega.{arith}
use lib.ListN.{length}
use Rattle.scope.specs.Limits.{copy_limit}
use Rattle.export.proofs.Why.{why_short, why_fits, why_told}
use borrow.Author.Rules.{rules}
use Rattle.export.proofs.tables.hwemiduk_why_none.Goals as goal

pub returns-then-floaters-lt-COPIES : goal.returns-then-floaters-lt-COPIES
returns-then-floaters-lt-COPIES c = why_short _ _ _ _ c.if-floaters-lt-COPIES.true

pub copy_bytes-requires : goal.copy_bytes-requires
copy_bytes-requires c =
    let w = rw c.in-Ok.is at c.why_none.ensures in
    let long : length c.in-Ok.why.at ≡ copy_limit = search rules in
    let fits = why_fits _ _ w long in
    (omega (arith, fits, long), omega (arith, fits, c.if-floaters-lt-COPIES.false))

pub returns-in-Ok : goal.returns-in-Ok
returns-in-Ok c = why_told _ _ _ _ c.if-floaters-lt-COPIES.false (rw c.in-Ok.is at c.why_none.ensures) c.copy_bytes.ensures
