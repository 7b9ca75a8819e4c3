-- `held::composition_held` meets its contract: the row, the short text, the label, the mass. Assumes nothing.
use borrow.Author.Rules.{rules}
use Prim.Native.Nat.{ℕ}
use native.Mathlib.Omega.{arith}
use lib.ListN.{length-replicate}
use Rattle.scope.specs.Limits.{text_limit}
use Rattle.store.proofs.PutRows.{back}
use Rattle.held.proofs.Joins.{gives_some, tells_not}
use Rattle.held.proofs.PartLaws.{cut_seen}
use Rattle.held.proofs.composition_held.Goals as goal

pub returns-then-so : goal.returns-then-so
returns-then-so c =
    let w = cut_seen c.args.t c.requires.fits c.args.bytes.now c.args.numbers.now (search rules) c.requires.composed_row c.label_from.ensures.0 c.label_to.ensures.0 c.composition-c.ensures c.put_composition.ensures
    (omega (arith, length-replicate {A = ℕ} text_limit 0)) c.offset_of-offset.ensures.0 c.fields_held.ensures c.stands.ensures c.stands-2.ensures (back _ c.mass.type_inv c.mass.ensures) c.is_mass.ensures in
    gives_some w.decided w.texts_are c.if-so.true

pub returns-else-so : goal.returns-else-so
returns-else-so c =
    let w = cut_seen c.args.t c.requires.fits c.args.bytes.now c.args.numbers.now (search rules) c.requires.composed_row c.label_from.ensures.0 c.label_to.ensures.0 c.composition-c.ensures c.put_composition.ensures
    (omega (arith, length-replicate {A = ℕ} text_limit 0)) c.offset_of-offset.ensures.0 c.fields_held.ensures c.stands.ensures c.stands-2.ensures (back _ c.mass.type_inv c.mass.ensures) c.is_mass.ensures in
    tells_not w.decided c.if-so.false
