use Prim.Native.Nat.{◌≤◌}
use native.Mathlib.Omega.{arith}
use Rattle.scope.specs.Limits.{residue_limit}
use Rattle.figures.proofs.Storing.{puts_none}
use Rattle.writer.proofs.Walking.{walks_still, room_less}
use Rattle.writer.proofs.LineLaws.{spelt_start, spelt_more, spelt_room, spelt_over}
use Rattle.writer.proofs.put_sequence.Goals as goal

pub loop-p-init : goal.loop-p-init
loop-p-init c = spelt_start _ _ _ _ _ _ (walks_still (puts_none _ _) c.requires.1 c.requires.2)

pub put_bare-letters-requires : goal.put_bare-letters-requires
put_bare-letters-requires c =
    let b = c.requires.0.bounds in
    let few : c.residues-n.result ≤ residue_limit = omega (arith, b.few_residues, c.residues-n.ensures.0) in
    (b.few_brackets_lem, few, omega (arith, (spelt_room _ _ _ _ _ _ c.loop-p.invariant few c.requires.3).fits), omega arith)

pub returns-then-n-letters : goal.returns-then-n-letters
returns-then-n-letters c =
    let e = c.residues-n.ensures.0 in
    let spelt = c.put_bare-letters.ensures.1 _ c.requires.0 _ _ _ c.loop-p.invariant in
    spelt_over _ _ _ _ _ _ spelt c.if-n-letters.true e (omega (arith, c.requires.0.bounds.few_residues, e))

pub put_residue-pen-requires : goal.put_residue-pen-requires
put_residue-pen-requires c =
    let e = c.residues-n.ensures.0 in
    let spelt = c.put_bare-letters.ensures.1 _ c.requires.0 _ _ _ c.loop-p.invariant in
    let w = spelt.walks in
    let left = spelt_room _ _ _ _ _ _ spelt (omega (arith, c.requires.0.bounds.few_residues, e)) c.requires.3 in
    (c.requires.0, w.within, w.below, room_less (omega (arith, c.if-n-letters.false)) left, e, c.if-n-letters.false)

pub loop-p-smaller : goal.loop-p-smaller
loop-p-smaller c = omega (arith, c.put_bare-letters.ensures.0, c.if-n-letters.false)

pub loop-p-preserved : goal.loop-p-preserved
loop-p-preserved c =
    let spelt = c.put_bare-letters.ensures.1 _ c.requires.0 _ _ _ c.loop-p.invariant in
    spelt_more _ _ _ _ _ _ spelt c.if-n-letters.false c.put_residue-pen.ensures

pub returns : goal.returns
returns c =
    let b = c.requires.0.bounds in
    let e = c.residues-n.ensures.0 in
    spelt_over _ _ _ _ _ _ c.loop-p.invariant c.loop-p-test.false e (omega (arith, b.few_residues, e))
