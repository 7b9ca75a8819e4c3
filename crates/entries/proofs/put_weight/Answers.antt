-- `entries::put_weight` meets its contract: the total, or `?` and how many lack a mass. Assumes nothing.
use mathlib.Core.Path.{◌≡◌}
use mir.Syntax.{w64}
use mir.Val.{to_z, of_z}
use Rattle.figures.proofs.Storing.{puts_of, puts_join}
use Rattle.entries.proofs.Texts.{total_told_lem, lacks_told}
use borrow.Author.Rules.{rules}
use Rattle.entries.proofs.put_weight.Goals as goal

pub returns-in-Ok : goal.returns-in-Ok
returns-in-Ok c =
    let m = c.in-Ok.m in
    let read : to_z w64 (of_z w64 m) ≡ m = search rules in
    puts_of (total_told_lem c.in-Ok.is read) c.put_signed.ensures

pub returns-in-Err : goal.returns-in-Err
returns-in-Err c = puts_of (lacks_told c.in-Err.is) (puts_join c.put-a.ensures c.put_decimal.ensures)
