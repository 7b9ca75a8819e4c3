use Rattle.std.proofs.Common.{arith}
use Rattle.chunks.proofs.Cutting.{passed_start, passed_stride}
use Rattle.chunks.proofs.skip_plain.Goals as goal

pub loop-i-init : goal.loop-i-init
loop-i-init c = passed_start _ _ c.requires

pub loop-i-preserved : goal.loop-i-preserved
loop-i-preserved c =
    let w = c.loop-i.invariant in
    passed_stride w (omega (arith, w.within, c.loop-i-test.true)) c.has_end.ensures c.if-not-has_end.true
