-- `lowfirst::put_four` meets its contract: the bytes of a number, over four bytes. Assumes nothing.
use Rattle.std.proofs.Common.{◌∙◌, arith}
use Rattle.lowfirst.proofs.Places.{low_four, low_put}
use Rattle.lowfirst.proofs.put_four.Goals as goal

pub returns : goal.returns
returns c =
    low_put 4 c.args.n c.args.at _ c.args.s.now (c.copy_from_slice.ensures.after ∙ c.to_le_bytes-bytes.ensures ∙ low_four c.args.n) (omega arith)
