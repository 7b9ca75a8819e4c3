-- `chains::Area::carries` meets its contract: what is told of the bytes of a block, in an area of so many. Assumes nothing.
use Rattle.blocks.specs.Area.{sound_at, carries}
use Rattle.chains.proofs.borrowed.Area.carries.Goals as goal

pub returns : goal.returns
unfolding carries sound_at
returns c = let many = c.args.self.now.whole.many in cc
