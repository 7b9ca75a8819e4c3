use Rattle.std.proofs.Common.{refl, arith}
use Rattle.chunks.proofs.Cutting.{looked_start, looked_more, looked_all}
use Rattle.chunks.proofs.has_end.Goals as goal

pub loop-i-init : goal.loop-i-init
loop-i-init c = looked_start _ _

pub loop-i-preserved : goal.loop-i-preserved
loop-i-preserved c = looked_more c.loop-i.invariant c.requires (omega arith) refl

pub returns : goal.returns
returns c = looked_all c.loop-i.invariant (omega arith)
