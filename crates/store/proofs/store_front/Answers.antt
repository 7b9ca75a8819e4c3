-- `store::store_front` meets its contract: counts, letters and sections are put one after another. Assumes nothing.
use Rattle.store.proofs.PutRows.{front_put_lem}
use Rattle.store.proofs.store_front.Goals as goal

pub returns : goal.returns
returns c =
    let a = c.args in
    front_put_lem a.sheet.now.letters a.sheet.now.sections a.residues a.brackets a.bytes.now c.put_counts.ensures c.put.ensures c.put-2.ensures
