-- `block::put_front` meets its contract: field by field, from the front on. Assumes nothing.
use mathlib.Core.Path.{◌≡◌}
use native.Mathlib.Omega.{arith}
use lib.ListN.{length, length-set}
use Rattle.scope.specs.Limits.{block_size}
use Rattle.block.proofs.Fronts.{front_written, set_long}
use Rattle.block.proofs.put_front.Goals as goal

pub put_four-requires : goal.put_four-requires
put_four-requires c =
    let long : length c.put_two.new.s ≡ block_size = set_long c.args.block.now c.put_two.new.s 0 c.args.kind c.put_two.auto.s c.requires.0 in
    simp length-set (omega (arith, long))

pub returns : goal.returns
returns c =
    front_written c.args.kind c.args.used c.args.next c.args.number c.args.block.now c.put_two.new.s
    c.put_four.new.s c.requires.0 c.put_two.ensures c.put_four.ensures
