-- An empty text is stuck, and any other is a value.
use Rattle.values.proofs.Values.{text_none, text_some}
use Rattle.values.proofs.text_of.Goals as goal

pub returns-then-from-to : goal.returns-then-from-to
returns-then-from-to c line at w a k d = text_none line at _ _ _ _ w a k d c.if-from-to.true

pub returns : goal.returns
returns c line at w a k d = text_some line at _ _ _ _ w a k d c.if-from-to.false
