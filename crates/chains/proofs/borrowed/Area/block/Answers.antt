-- `chains::Area::block` meets its contract: the first bytes behind those of the blocks before it. Assumes nothing.
use Rattle.std.proofs.Common.{◌∙◌}
use Rattle.chains.proofs.Lent.{block_first}
use Rattle.chains.proofs.borrowed.Area.block.Goals as goal

pub returns : goal.returns
returns c = let h = rw c.unwrap.ensures at c.first_chunk.ensures.cases in h.same ∙ block_first c.args.self.now.bytes.now c.args.b
