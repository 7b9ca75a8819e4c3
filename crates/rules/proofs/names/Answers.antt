-- `names` meets its contract: no label, the wrong side, or its parts searched. Assumes nothing.
use Rattle.rules.proofs.Searched.{side_none, side_other, side_searched, legible_read}
use Rattle.rules.specs.Told.{name_at}
use native.Mathlib.Omega.{arith}
use Rattle.rules.proofs.names.Goals as goal

pub returns-then-labels_of-eq0 : goal.returns-then-labels_of-eq0
returns-then-labels_of-eq0 c =
    side_none c.args.line.now c.args.sheet.now.heads c.args.sheet.now.parts _ c.args.k (name_at c.args.line.now c.args.sheet.now.parts c.args.x) c.labels_of.ensures.0 c.if-labels_of-eq0.true

pub has_label-requires : goal.has_label-requires
has_label-requires c =
    (c.requires.1, legible_read c.args.line.now c.args.sheet.now.heads c.args.sheet.now.parts _ c.args.k c.requires.0 (omega arith) c.base_of.ensures.0 c.parts_of.ensures.0)

pub returns-then-is_side : goal.returns-then-is_side
returns-then-is_side c =
    side_searched c.args.line.now c.args.sheet.now.heads c.args.sheet.now.parts _ c.args.k (name_at c.args.line.now c.args.sheet.now.parts c.args.x) c.labels_of.ensures.0 c.if-labels_of-eq0.false c.is_side.ensures c.if-is_side.true c.base_of.ensures.0 c.parts_of.ensures.0 c.has_label.ensures

pub returns : goal.returns
returns c =
    side_other c.args.line.now c.args.sheet.now.heads c.args.sheet.now.parts _ c.args.k (name_at c.args.line.now c.args.sheet.now.parts c.args.x) c.labels_of.ensures.0 c.if-labels_of-eq0.false c.is_side.ensures c.if-is_side.false
