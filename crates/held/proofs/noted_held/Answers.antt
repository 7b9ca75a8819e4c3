-- `held::noted_held` meets its contract: the row, the text, the label, the mass. Assumes nothing.
use borrow.Author.Rules.{rules}
use Rattle.store.proofs.PutRows.{back}
use Rattle.held.proofs.Joins.{gives_some, tells_not}
use Rattle.held.proofs.PartLaws.{noted_seen}
use Rattle.held.proofs.noted_held.Goals as goal

pub is_noted-requires : goal.is_noted-requires
is_noted-requires c = c.requires.fits.few_rows

pub returns-then-so : goal.returns-then-so
returns-then-so c =
    let w = noted_seen c.args.t c.requires.fits c.args.bytes.now c.args.numbers.now (search rules) c.requires.plain c.text_from.ensures.0 c.text_to.ensures.0 c.label_from.ensures.0 c.label_to.ensures.0
    c.offset_of-offset.ensures.0 c.value_of-value.ensures.0 c.key_of-key.ensures.0 c.decimals_of-decimals.ensures.0 c.fields_held.ensures c.stands.ensures
    c.stands-2.ensures (back _ c.mass.type_inv c.mass.ensures) c.is_noted.ensures in
    gives_some w.decided w.texts_are c.if-so.true

pub returns-else-so : goal.returns-else-so
returns-else-so c =
    let w = noted_seen c.args.t c.requires.fits c.args.bytes.now c.args.numbers.now (search rules) c.requires.plain c.text_from.ensures.0 c.text_to.ensures.0 c.label_from.ensures.0 c.label_to.ensures.0
    c.offset_of-offset.ensures.0 c.value_of-value.ensures.0 c.key_of-key.ensures.0 c.decimals_of-decimals.ensures.0 c.fields_held.ensures c.stands.ensures
    c.stands-2.ensures (back _ c.mass.type_inv c.mass.ensures) c.is_noted.ensures in
    tells_not w.decided c.if-so.false
