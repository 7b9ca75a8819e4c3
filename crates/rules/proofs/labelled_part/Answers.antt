use Rattle.rules.proofs.Searched.{seek_starts, seek_more, seek_found, seek_ends}
use Rattle.sheet.specs.Fields.{parts_field, base_field}
use Prim.Native.Nat.{◌-◌}
use native.Mathlib.Omega.{arith}
use Rattle.rules.proofs.labelled_part.Goals as goal

pub overflow_sub-last : goal.overflow_sub-last
overflow_sub-last c = omega (arith, c.requires.1, c.parts_of.ensures.0)

pub loop-x-init : goal.loop-x-init
loop-x-init c =
    seek_starts c.args.sheet.now.parts (base_field c.args.sheet.now.heads c.args.k) (parts_field c.args.sheet.now.heads c.args.k - 1) c.base_of-first.ensures.0 (omega (arith, c.requires.1, c.parts_of.ensures.0)) (omega (arith, c.parts_of.ensures.0))

pub label_to-requires : goal.label_to-requires
label_to-requires c = omega (arith, c.requires.1, c.requires.2, c.loop-x.invariant.ends, c.loop-x-test.true)

pub returns-then-label_to-ne-NOWHERE : goal.returns-then-label_to-ne-NOWHERE
returns-then-label_to-ne-NOWHERE c =
    let s = c.args in
    seek_found s.sheet.now.parts (base_field s.sheet.now.heads s.k) (parts_field s.sheet.now.heads s.k - 1) _ _ c.loop-x.invariant c.loop-x-test.true c.label_to.ensures.0 c.if-label_to-ne-NOWHERE.true

pub loop-x-preserved : goal.loop-x-preserved
loop-x-preserved c =
    let s = c.args in
    seek_more s.sheet.now.parts (base_field s.sheet.now.heads s.k) (parts_field s.sheet.now.heads s.k - 1) _ _ c.loop-x.invariant c.loop-x-test.true c.label_to.ensures.0 c.if-label_to-ne-NOWHERE.false

pub returns : goal.returns
returns c =
    let s = c.args in
    seek_ends s.sheet.now.parts (base_field s.sheet.now.heads s.k) (parts_field s.sheet.now.heads s.k - 1) _ _ c.loop-x.invariant c.loop-x-test.false
