-- The byte behind a part, case by case.
use Rattle.inside.proofs.Answers.{behind_end, byte_shuts, byte_other, byte_refused, byte_splits}
use Rattle.inside.proofs.behind.Goals as goal

pub returns-then-line-next : goal.returns-then-line-next
returns-then-line-next c = behind_end _ _ _ _ _ c.if-line-next.true

pub returns-then-b-shut : goal.returns-then-b-shut
returns-then-b-shut c = byte_shuts _ _ _ _ _ c.if-line-next.false c.if-b-shut.true

pub returns-then-b-ne124 : goal.returns-then-b-ne124
returns-then-b-ne124 c = byte_other _ _ _ _ _ c.if-line-next.false c.if-b-shut.false c.if-b-ne124.true

pub returns-then-reference : goal.returns-then-reference
returns-then-reference c = byte_refused _ _ _ _ _ c.if-line-next.false c.if-b-shut.false c.if-reference.true

pub returns : goal.returns
returns c = byte_splits _ _ _ _ _ c.if-line-next.false c.if-b-shut.false c.if-b-ne124.false c.if-reference.false
