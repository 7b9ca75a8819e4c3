use Rattle.copies.proofs.Copied.{copied_start, copied_more, copied_all}
use Rattle.copies.proofs.copy.Goals as goal

pub loop-i-init : goal.loop-i-init
loop-i-init c = copied_start c.requires

pub loop-i-preserved : goal.loop-i-preserved
loop-i-preserved c = copied_more c.requires 0 c.loop-i.invariant c.loop-i-test.true

pub returns : goal.returns
returns c = copied_all c.requires c.loop-i.invariant c.loop-i-test.false
