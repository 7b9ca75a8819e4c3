-- `store::store_composition` meets its contract: the short text, the label, the row and the mass are put one after another. Assumes nothing.
use mathlib.Core.Path.{refl}
use Prim.Native.Nat.{◌+◌}
use mir.Syntax.{w64}
use mir.ValLaws.{to_z_pos}
use Rattle.scope.specs.Layout.{texts_at}
use Rattle.store.proofs.PutRows.{row_put, label_is, cut_key, cut_value_lem, cut_decimals, cut_mass, put_behind_texts}
use Rattle.store.proofs.store_composition.Goals as goal

pub returns : goal.returns
returns c =
    let w = c.requires.composed_row in
    row_put c.requires.fits c.composition-c.ensures.sized (label_is c.requires.fits c.label_from.ensures.0 c.label_to.ensures.0)
    (put_behind_texts (texts_at + c.args.t) c.put_composition.ensures refl c.composition-c.ensures.sized) c.put.ensures
    (cut_value_lem w) (cut_key w) (cut_decimals w) c.offset_of-offset.ensures.0 c.put_part.ensures (cut_mass w c.args.sheet.now.masses c.composition-c.ensures (to_z_pos w64 c.composition-c.result.mass c.composition-c.ensures.fits)) c.put_mass.ensures
