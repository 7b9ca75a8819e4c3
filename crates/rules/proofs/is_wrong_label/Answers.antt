-- `is_wrong_label` meets its contract: a reference without definition, a definition again, one that is never referred to, or none of these. Assumes nothing.
use Rattle.rules.proofs.Tried.{wrong_reference, wrong_again, wrong_unreferred, wrong_not}
use Rattle.rules.proofs.Searched.{legible_fewer}
use native.Mathlib.Omega.{arith}
use Rattle.rules.proofs.is_wrong_label.Goals as goal

pub returns-then-sort_of-eq-REFERENCE : goal.returns-then-sort_of-eq-REFERENCE
returns-then-sort_of-eq-REFERENCE c =
    wrong_reference c.args.line.now c.args.sheet.now.heads c.args.sheet.now.parts c.args.n c.args.k c.args.x c.sort_of.ensures.0 c.if-sort_of-eq-REFERENCE.true c.is_named.ensures

pub is_named-requires-2 : goal.is_named-requires-2
is_named-requires-2 c = (legible_fewer _ _ _ _ _ c.requires.0 (omega (arith, c.requires.1)), c.requires.2)

pub returns-then-is_named : goal.returns-then-is_named
returns-then-is_named c =
    wrong_again c.args.line.now c.args.sheet.now.heads c.args.sheet.now.parts c.args.n c.args.k c.args.x c.sort_of.ensures.0 c.if-sort_of-eq-REFERENCE.false c.is_named-2.ensures c.if-is_named.true

pub returns-then-kind_of : goal.returns-then-kind_of
returns-then-kind_of c =
    wrong_unreferred c.args.line.now c.args.sheet.now.heads c.args.sheet.now.parts c.args.n c.args.k c.args.x c.sort_of.ensures.0 c.if-sort_of-eq-REFERENCE.false c.is_named-2.ensures c.if-is_named.false c.kind_of.ensures.0 c.if-kind_of.true c.is_named-then-kind_of.ensures

pub returns : goal.returns
returns c =
    wrong_not c.args.line.now c.args.sheet.now.heads c.args.sheet.now.parts c.args.n c.args.k c.args.x c.sort_of.ensures.0 c.if-sort_of-eq-REFERENCE.false c.is_named-2.ensures c.if-is_named.false c.kind_of.ensures.0 c.if-kind_of.false
