-- `is_wrong` meets its contract: by how many labels it has, by its count, by its one label. Assumes nothing.
use Rattle.rules.proofs.Tried.{wrong_none, wrong_two, wrong_counted, wrong_one}
use Rattle.rules.proofs.Searched.{some_parts, parts_fit, labelled_legible}
use native.Mathlib.Omega.{arith}
use Rattle.rules.proofs.is_wrong.Goals as goal

pub returns-then-labels-eq0 : goal.returns-then-labels-eq0
returns-then-labels-eq0 c =
    wrong_none c.args.line.now c.args.sheet.now.heads c.args.sheet.now.parts c.args.n c.args.k c.labels_of-labels.ensures.0 c.if-labels-eq0.true

pub returns-then-labels-gt1 : goal.returns-then-labels-gt1
returns-then-labels-gt1 c =
    wrong_two c.args.line.now c.args.sheet.now.heads c.args.sheet.now.parts c.args.n c.args.k c.labels_of-labels.ensures.0 c.if-labels-eq0.false c.if-labels-gt1.true

pub returns-then-is_counted : goal.returns-then-is_counted
returns-then-is_counted c =
    wrong_counted c.args.line.now c.args.sheet.now.heads c.args.sheet.now.parts c.args.n c.args.k c.labels_of-labels.ensures.0 c.if-labels-eq0.false c.if-labels-gt1.false c.is_counted.ensures c.if-is_counted.true

pub labelled_part-requires : goal.labelled_part-requires
labelled_part-requires c =
    let e = c.labels_of-labels.ensures.0 in
    let some = c.if-labels-eq0.false in
    (omega (arith, c.requires.0.few, c.requires.1), some_parts c.args.line.now c.args.sheet.now.heads c.args.sheet.now.parts c.args.n c.args.k c.requires.0 c.requires.1 e some, parts_fit c.args.line.now c.args.sheet.now.heads c.args.sheet.now.parts c.args.n c.args.k c.requires.0 c.requires.1 e some)

pub is_wrong_label-requires : goal.is_wrong_label-requires
is_wrong_label-requires c =
    (c.requires.0, c.requires.1, labelled_legible c.args.line.now c.args.sheet.now.heads c.args.sheet.now.parts c.args.n c.args.k c.requires.0 c.requires.1 c.labels_of-labels.ensures.0 c.if-labels-eq0.false c.labelled_part.ensures)

pub returns : goal.returns
returns c =
    wrong_one c.args.line.now c.args.sheet.now.heads c.args.sheet.now.parts c.args.n c.args.k c.labels_of-labels.ensures.0 c.if-labels-eq0.false c.if-labels-gt1.false c.is_counted.ensures c.if-is_counted.false c.labelled_part.ensures c.is_wrong_label.ensures
