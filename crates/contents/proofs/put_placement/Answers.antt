use Rattle.std.proofs.Common.{refl, arith}
use Rattle.contents.proofs.Bytes.{copied_more}
use Rattle.contents.proofs.put_placement.Goals as goal

pub loop-i-preserved : goal.loop-i-preserved
loop-i-preserved c = copied_more _ c.args.room.now c.loop-i.i c.loop-i.invariant (omega arith) (omega (arith, c.requires.0))
