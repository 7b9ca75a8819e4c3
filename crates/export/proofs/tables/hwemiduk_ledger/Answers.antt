-- `export::tables::hwemiduk_ledger` meets its contract: the ledger stands at the front of the entries.
use mathlib.Core.Path.{◌≡◌, sym, ap, ◌∙◌}
use lib.ListN.{length, drop}
use lib.Seq.{length-take-le}
use mathlib.Core.List.{◌++◌}
use Rattle.scope.specs.Limits.{position_limit}
use Rattle.export.proofs.Lent.{booked_long}
use borrow.Author.Rules.{rules}
use Rattle.export.proofs.tables.hwemiduk_ledger.Goals as goal

pub copy_from_slice-requires : goal.copy_from_slice-requires
copy_from_slice-requires c =
    let long : length c.in-Ok.ledger.at ≡ position_limit = search rules in
    length-take-le position_limit c.args.entries.now c.if-entries-lt-POSITIONS.false ∙ sym long

pub returns-in-Ok : goal.returns-in-Ok
returns-in-Ok c =
    let long : length c.in-Ok.ledger.at ≡ position_limit = search rules in
    booked_long _ _ _ _ _ _ c.placement_in.ensures c.if-placement-lt-COPIES.false c.if-entries-lt-POSITIONS.false c.in-Ok.ensures
    long (ap (λ l. l ++ drop position_limit c.args.entries.now) c.copy_from_slice.ensures.after)
