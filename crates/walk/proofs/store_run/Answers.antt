-- Residues stored, or not.
use mathlib.Core.Path.{refl, ap₂, ◌∙◌}
use borrow.Author.Tests.{le-leb, lt-leb}
use Rattle.basics.specs.Choice.{took, passed}
use Rattle.walk.specs.Stages.{with_letters}
use Rattle.walk.proofs.Stores.{sections_of_lem}
use Rattle.walk.proofs.store_run.Goals as goal

pub returns-then-end-le-RESIDUES : goal.returns-then-end-le-RESIDUES
returns-then-end-le-RESIDUES c =
    let t = c.args.sheet.now in
    ap₂ (λ x y. with_letters t x y) (c.store_letters.ensures ∙ took _ _ _ (le-leb _ _ c.if-end-le-RESIDUES.true))
    (c.store_sections.ensures
    ∙ sections_of_lem t.sections c.args.section _ c.args.n c.args.m _ _ c.section_code.ensures c.section_behind-next.ensures c.section_code-then-end-le-RESIDUES.ensures
    ∙ took _ _ _ (le-leb _ _ c.if-end-le-RESIDUES.true))

pub returns-else-end-le-RESIDUES : goal.returns-else-end-le-RESIDUES
returns-else-end-le-RESIDUES c =
    let t = c.args.sheet.now in
    ap₂ (λ x y. with_letters t x y) (passed _ _ _ _ (lt-leb _ _ c.if-end-le-RESIDUES.false) refl) (passed _ _ _ _ (lt-leb _ _ c.if-end-le-RESIDUES.false) refl)
