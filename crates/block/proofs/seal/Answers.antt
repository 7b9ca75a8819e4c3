-- `block::seal` meets its contract: the sum, behind what it sums. Assumes nothing.
use Rattle.std.proofs.Common.{◌∙◌, ap, arith}
use Rattle.std.proofs.lemmas.List.{length-take-le}
use Rattle.blocks.specs.LowFirst.{low_first}
use Rattle.blocks.specs.Block.{sum_at, sum_size}
use Rattle.blocks.specs.Area.{put_at}
use Rattle.block.proofs.Fronts.{sealed_put}
use Rattle.block.proofs.seal.Goals as goal

pub slice_bounds-sum-end-2 : goal.slice_bounds-sum-end-2
slice_bounds-sum-end-2 c = omega (arith, length-take-le sum_at c.args.block.now (omega arith))

pub returns : goal.returns
returns c =
    let x = c.args.block.now in
    c.put_four.ensures ∙ ap (λ n. put_at sum_at (low_first sum_size n) x) c.sum-total.ensures ∙ sealed_put x c.requires
