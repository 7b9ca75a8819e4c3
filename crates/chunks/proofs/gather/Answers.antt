-- `chunks::gather` meets its contract: a cut behind the end of a line, or at the end of the chunk. Assumes nothing.
use Rattle.chunks.proofs.Cutting.{cut_line, cut_chunk}
use Rattle.chunks.proofs.gather.Goals as goal

pub returns-then-end-chunk : goal.returns-then-end-chunk
returns-then-end-chunk c = cut_line _ _ _ _ _ _ _ c.requires.1 c.line_end-end.ensures c.keep-n.ensures c.if-end-chunk.true

pub returns-else-end-chunk : goal.returns-else-end-chunk
returns-else-end-chunk c = cut_chunk _ _ _ _ _ _ _ c.requires.1 c.line_end-end.ensures c.keep-n.ensures c.if-end-chunk.false
