use Rattle.chunks.proofs.Cutting.{passed_more}
use Rattle.chunks.proofs.line_end.Goals as goal

pub loop-i-preserved : goal.loop-i-preserved
loop-i-preserved c = passed_more _ _ _ c.loop-i.invariant c.loop-i-test.true c.if-chunk-i-eq-NEWLINE.false
