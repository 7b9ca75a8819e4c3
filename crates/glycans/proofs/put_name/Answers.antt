-- The letters are copied behind the place where they begin. Assumes nothing.
use Rattle.glycans.proofs.Putting.{put_copied}
use Rattle.glycans.proofs.put_name.Goals as goal

pub returns : goal.returns
returns c = rw (c.copy.ensures, c.sugar_at.ensures.0) (put_copied c.requires)
