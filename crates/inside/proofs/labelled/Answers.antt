-- The label of a part: read, stored, counted, and what is due of it; then the byte behind it.
use Rattle.std.proofs.lemmas.Result.{err_from_is_err_and}
use mathlib.Core.Path.{sym, ap, subst}
use native.Mathlib.Omega.{arith}
use Rattle.sheet.proofs.KeptLaws.{parts_put}
use Rattle.inside.specs.Progress.{NextPart}
use Rattle.inside.proofs.Reading.{a_label, no_label}
use Rattle.inside.proofs.Steps.{label_places_lem, label_found, label_read}
use Rattle.inside.proofs.labelled.Goals as goal

pub store_label-requires : goal.store_label-requires
store_label-requires c =
    let v = a_label _ _ _ _ (c.label_at.ensures (omega (arith, c.requires.within))) c.in_ok-l.was in
    let p = label_places_lem _ _ _ _ _ c.args.s c.requires _ v in
    (c.requires.row, p.0, p.1)

pub label_due-least-requires : goal.label_due-least-requires
label_due-least-requires c =
    label_found _ _ _ _ _ c.args.s c.requires _ (a_label _ _ _ _ (c.label_at.ensures (omega (arith, c.requires.within))) c.in_ok-l.was)

pub returns-in_err-l-clause-says : goal.returns-in_err-l-clause-says
returns-in_err-l-clause-says c =
    λ o before q a.
    let p = err_from_is_err_and c.from_residual.result c.from_residual.ensures.1 in
    rw (p.1, p.2) (no_label _ o _ _ _ _ _ _ c.args.s before q _ _ a c.requires.within _ _ (c.label_at.ensures (omega (arith, c.requires.within))) c.in_err-l.was)

pub returns-clause-others_kept : goal.returns-clause-others_kept
returns-clause-others_kept c = parts_put _ _ _ _ c.store_label.ensures

pub returns-clause-says : goal.returns-clause-says
returns-clause-says c =
    let put = c.store_label.ensures in
    λ o before q a.
    subst (λ m. NextPart c.args.line.now o c.args.part c.behind.result c.store_label.new.sheet.parts m) (sym (ap (λ z. z.masses) put))
    (label_read _ o _ _ _ _ _ _ c.args.s before q _ _ a c.requires _ (a_label _ _ _ _ (c.label_at.ensures (omega (arith, c.requires.within))) c.in_ok-l.was) _ _ _ _
    c.sized.ensures.parts_room_is (ap (λ z. z.parts) put) c.label_due-least.ensures c.with_label-t.ensures c.behind.ensures)
