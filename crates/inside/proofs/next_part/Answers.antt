-- The next part: its value read, stored, counted, and what is due of it; then its label, or the byte behind it.
use Rattle.std.proofs.lemmas.Result.{err_from_is_err_and}
use mathlib.Core.Path.{refl, sym, ap, ◌∙◌}
use Rattle.sheet.proofs.KeptLaws.{parts_put, parts_then}
use native.Mathlib.Omega.{arith}
use Rattle.inside.proofs.OnePart.{value_refers}
use Rattle.inside.proofs.Reading.{a_value, no_value, unlabelled_end, a_part}
use Rattle.inside.proofs.Steps.{stored_fits, value_found, value_places, label_asked, value_read, at_label}
use Rattle.inside.proofs.next_part.Goals as goal

pub store_part-requires : goal.store_part-requires
store_part-requires c =
    let r = a_value _ _ _ _ _ (c.value_at.ensures c.requires.within) c.in_ok-v.was in
    let p = value_places _ _ _ _ r.is_value c.requires.short in
    (stored_fits _ _ _ _ _ _ c.args.s c.requires _ c.has_room-stored.ensures, p.0, p.1)

pub value_due-due-requires : goal.value_due-due-requires
value_due-due-requires c =
    let r = a_value _ _ _ _ _ (c.value_at.ensures c.requires.within) c.in_ok-v.was in
    value_found _ _ _ _ r.is_value c.requires.short

pub with_value-t-requires : goal.with_value-t-requires
with_value-t-requires c = omega (arith, c.requires.few, c.requires.within, c.requires.short)

pub labelled-requires : goal.labelled-requires
labelled-requires c =
    let r = a_value _ _ _ _ _ (c.value_at.ensures c.requires.within) c.in_ok-v.was in
    label_asked _ _ _ _ _ _ c.args.s c.requires _ _ r.is_value _ _ _ _ _ c.has_room-stored.ensures refl c.has_label.ensures c.if-has_label.true c.with_value-t.ensures

pub returns-then-has_label-clause-others_kept : goal.returns-then-has_label-clause-others_kept
returns-then-has_label-clause-others_kept c = parts_then (parts_put _ _ _ _ c.store_part.ensures) c.labelled.ensures.others_kept

pub returns-then-has_label-clause-says : goal.returns-then-has_label-clause-says
returns-then-has_label-clause-says c =
    let r = a_value _ _ _ _ _ (c.value_at.ensures c.requires.within) c.in_ok-v.was in
    λ from least old masses₀ z.
    c.labelled.ensures.says _ _ _
    (at_label _ _ _ c.args.s _ _ z _ c.may_refer-first.ensures c.requires.with_labels _ r _ _ _ _ _ _ _
    (value_read _ _ _ c.args.s _ _ z _ c.may_refer-first.ensures c.requires.with_labels _ r _ _ _ _ _ _ _ c.has_room-stored.ensures refl (stored_fits _ _ _ _ _ _ c.args.s c.requires _ c.has_room-stored.ensures) c.sized.ensures.parts_room_is c.sized.ensures.masses_room_is (ap (λ z. z.parts) c.store_part.ensures) (ap (λ z. z.masses) c.store_part.ensures) c.value_due-due.ensures c.due_if-least.ensures c.with_value-t.ensures)
    c.has_room-stored.ensures refl c.has_label.ensures c.if-has_label.true (c.is_reference-reference.ensures ∙ value_refers _ _ _ _ r.is_value))

pub returns-in_err-v-clause-says : goal.returns-in_err-v-clause-says
returns-in_err-v-clause-says c =
    λ from least old masses₀ z.
    let p = err_from_is_err_and c.from_residual.result c.from_residual.ensures.1 in
    rw (p.1, p.2) (no_value _ _ _ c.args.s _ _ z _ c.may_refer-first.ensures c.requires.with_labels _ _ (c.value_at.ensures c.requires.within) c.in_err-v.was)

pub returns-clause-others_kept : goal.returns-clause-others_kept
returns-clause-others_kept c = parts_put _ _ _ _ c.store_part.ensures

pub returns-clause-says : goal.returns-clause-says
returns-clause-says c =
    let r = a_value _ _ _ _ _ (c.value_at.ensures c.requires.within) c.in_ok-v.was in
    λ from least old masses₀ z.
    a_part _ _ _ _ _ _ _ _ _
    (unlabelled_end _ _ _ _ _ _ _ _
    (value_read _ _ _ c.args.s _ _ z _ c.may_refer-first.ensures c.requires.with_labels _ r _ _ _ _ _ _ _ c.has_room-stored.ensures refl (stored_fits _ _ _ _ _ _ c.args.s c.requires _ c.has_room-stored.ensures) c.sized.ensures.parts_room_is c.sized.ensures.masses_room_is (ap (λ z. z.parts) c.store_part.ensures) (ap (λ z. z.masses) c.store_part.ensures) c.value_due-due.ensures c.due_if-least.ensures c.with_value-t.ensures)
    (sym c.has_label.ensures ∙ c.if-has_label.false))
    r.is_value.past _ _ _ refl (c.is_reference-reference.ensures ∙ value_refers _ _ _ _ r.is_value) c.behind.ensures
