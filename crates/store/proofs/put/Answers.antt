-- The bytes are written to the part of the area that begins there. Assumes nothing.
use Rattle.store.proofs.Copies.{put_at}
use Rattle.store.proofs.put.Goals as goal

pub returns : goal.returns
returns c = rw c.copy.ensures (put_at _ c.args.at _ c.requires)
