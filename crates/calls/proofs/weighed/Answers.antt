-- `calls::weighed` meets its contract: the total that was weighed, or 16.
use mathlib.Core.Path.{sym, ap, ◌∙◌}
use Rattle.std.proofs.Common.{rules, ◌≡◌, to_z, of_z, w64}
use Rattle.scope.specs.Answers.{good}
use Rattle.calls.proofs.Laws.{weighed_so}
use Rattle.calls.proofs.weighed.Goals as goal

pub returns-in-Ok : goal.returns-in-Ok
returns-in-Ok c =
    let m = c.in-Ok.m in
    let read : to_z w64 (of_z w64 m) ≡ m = search rules in
    ap good read ∙ weighed_so _ c.weigh.ensures c.in-Ok.is

pub returns-in-Err : goal.returns-in-Err
returns-in-Err c = weighed_so _ c.weigh.ensures c.in-Err.is
