-- `keeping::add_content` meets its contract: 26, then 25, 23 or a content into free blocks, by what is found. Assumes nothing.
use Rattle.std.proofs.Common.{refl, sym, ap, ap₂, ◌∙◌}
use Rattle.scope.specs.Answers.{refuses, reason_number}
use Rattle.blocks.specs.Entry.{absent, damaged, present, look}
use Rattle.keeping.proofs.Calls.{handed_on, refused_so, placed_so, placing_26, placing_by, as_placed}
use Rattle.keeping.proofs.Looks.{found_in}
use Rattle.keeping.proofs.add_content.Goals as goal

pub returns-in_err-whole : goal.returns-in_err-whole
returns-in_err-whole c =
    let w = rw c.in_err-whole.was at c.whole.ensures in
    placed_so c.args.number c.args.content.now (refuses 26 0) (placing_26 _ _ _ w.0) (handed_on c.from_residual.result _ c.from_residual.ensures.1 ∙ refused_so _ w.1) refl

pub returns-in_err-look : goal.returns-in_err-look
returns-in_err-look c =
    let w = rw c.in_ok-whole.was at c.whole.ensures in
    let l = rw c.in_err-look.was at c.look.ensures in
    placed_so c.args.number c.args.content.now (refuses 25 0) (placing_by _ _ _ w.0 damaged (ap (λ x. look x c.args.number) (sym w.1) ∙ l.0))
    (handed_on c.from_residual-in_err-look.result _ c.from_residual-in_err-look.ensures.1 ∙ refused_so _ l.1) refl

pub returns-in-Some : goal.returns-in-Some
returns-in-Some c =
    let w = rw c.in_ok-whole.was at c.whole.ensures in
    let f = found_in c.args.number w.1 (rw c.in-Some.is at (rw c.in_ok-look.was at c.look.ensures)) in
    placed_so c.args.number c.args.content.now (refuses 23 0) (placing_by _ _ _ w.0 (present _ _) f.is)
    (ap₂ refuses (ap (λ r. reason_number r) c.refused.ensures.0) c.refused.ensures.1) refl

pub returns-in-None : goal.returns-in-None
returns-in-None c =
    let w = rw c.in_ok-whole.was at c.whole.ensures in
    as_placed c.args.number c.args.content.now (placing_by _ _ _ w.0 absent (ap (λ x. look x c.args.number) (sym w.1) ∙ (rw c.in-None.is at (rw c.in_ok-look.was at c.look.ensures)))) c.add_new.ensures
