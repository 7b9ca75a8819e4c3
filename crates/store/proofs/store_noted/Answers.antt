-- `store::store_noted` meets its contract: the texts, the row and the mass are put one after another. Assumes nothing.
use Rattle.store.proofs.PutRows.{back, noted_put}
use borrow.Author.Rules.{rules}
use Rattle.store.proofs.store_noted.Goals as goal

pub put_part-requires : goal.put_part-requires
put_part-requires c =
    let h = c.requires.fits in
    search rules

pub returns : goal.returns
returns c =
    noted_put c.requires.fits c.requires.plain c.text_from.ensures.0 c.text_to.ensures.0 c.label_from.ensures.0 c.label_to.ensures.0 c.put.ensures c.put-2.ensures
    c.value_of-value.ensures.0 c.key_of-key.ensures.0 c.decimals_of-decimals.ensures.0 c.offset_of-offset.ensures.0 c.put_part.ensures (back _ c.mass_of.type_inv c.mass_of.ensures) c.put_mass.ensures
