-- `calls::shown` meets its contract: what was weighed, a total in daltons.
use mathlib.Core.Path.{sym, ap, ◌∙◌}
use Rattle.std.proofs.Common.{rules, subst, ◌≡◌, ◌<◌, nat_abs, to_z, of_z, w64}
use Rattle.mass_laws.specs.Terms.{total_limit}
use Rattle.scope.specs.Answers.{good, a_mass, display_of}
use Rattle.scope.specs.Masses.{daltons}
use Rattle.calls.proofs.Laws.{answers, weight_total, displayed}
use Rattle.calls.proofs.shown.Goals as goal

pub as_daltons-requires : goal.as_daltons-requires
as_daltons-requires c =
    let m = c.in-Ok-weigh.m in
    let read : to_z w64 (of_z w64 m) ≡ m = search rules in
    subst (λ z. nat_abs z < total_limit) (weight_total _ c.weigh.ensures c.in-Ok-weigh.is ∙ sym read) c.in-Ok.ensures.grounds.below

pub returns-in-Ok-weigh : goal.returns-in-Ok-weigh
returns-in-Ok-weigh c =
    let m = c.in-Ok-weigh.m in
    let read : to_z w64 (of_z w64 m) ≡ m = search rules in
    ap (λ z. good (a_mass z)) (c.as_daltons.ensures ∙ ap daltons read) ∙ ap good (displayed _ c.weigh.ensures c.in-Ok-weigh.is)
    ∙ sym (answers (λ t. good (display_of t)) c.in-Ok.ensures)

pub returns-in-Err-weigh : goal.returns-in-Err-weigh
returns-in-Err-weigh c =
    ap good (displayed _ c.weigh.ensures c.in-Err-weigh.is)
    ∙ sym (answers (λ t. good (display_of t)) c.in-Ok.ensures)
