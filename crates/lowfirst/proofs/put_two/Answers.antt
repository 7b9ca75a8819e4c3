-- `lowfirst::put_two` meets its contract: the bytes of a number, over two bytes. Assumes nothing.
use Rattle.std.proofs.Common.{◌∙◌, arith}
use Rattle.lowfirst.proofs.Places.{low_two, low_put}
use Rattle.lowfirst.proofs.put_two.Goals as goal

pub returns : goal.returns
returns c =
    low_put 2 c.args.n c.args.at _ c.args.s.now (c.copy_from_slice.ensures.after ∙ c.to_le_bytes-bytes.ensures ∙ low_two c.args.n) (omega arith)
