use Rattle.walk.proofs.Stores.{sections_start, sections_next, sections_end}
use Rattle.walk.proofs.store_sections.Goals as goal

pub loop-i-init : goal.loop-i-init
loop-i-init c = sections_start _ _ _ _ c.requires.0

pub loop-i-preserved : goal.loop-i-preserved
loop-i-preserved c = sections_next c.loop-i.invariant c.loop-i-test.true

pub returns : goal.returns
returns c = sections_end c.loop-i.invariant c.loop-i-test.false
