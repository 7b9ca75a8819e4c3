-- A label is read where the line goes on behind it.
use Rattle.scope.specs.Content.{part_end, labelled}
use Rattle.labels.proofs.Saying.{over}
use Rattle.labels.proofs.Names.{label_read}
use Rattle.labels.proofs.label_end.Goals as goal

pub returns-then-line-next : goal.returns-then-line-next
returns-then-line-next c s is a k = over _ _ _ (λ q x. part_end x (labelled q _ _ s)) c.if-line-next.true k

pub returns : goal.returns
returns c s is a k = label_read _ _ _ _ _ s is a c.if-line-next.false
