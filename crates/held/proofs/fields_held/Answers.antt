-- `held::fields_held` meets its contract: the fields of the row, one by one. Assumes nothing.
use borrow.Author.Rules.{rules}
use mathlib.Core.Path.{refl}
use Rattle.held.proofs.Joins.{tells_equal}
use Rattle.held.proofs.FieldLaws.{fields_told}
use Rattle.held.proofs.fields_held.Goals as goal

pub returns : goal.returns
returns c =
    let pre = c.requires in
    fields_told (record { low = c.fits-bytes; long = search rules }) c.args.k c.args.j pre.0 pre.1
    (tells_equal c.value.ensures.0 refl)
    (tells_equal c.key.ensures.0 refl)
    (tells_equal c.decimals.ensures.0 refl)
    (tells_equal c.text_length.ensures.0 refl)
    (tells_equal c.label_length.ensures.0 refl)
    (tells_equal c.offset.ensures.0 refl)
