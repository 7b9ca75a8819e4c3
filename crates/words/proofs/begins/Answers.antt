-- A text that is shorter than the word does not begin with it. Assumes nothing.
use Rattle.words.proofs.Words.{too_short}
use Rattle.words.proofs.begins.Goals as goal

pub returns-else-word-text : goal.returns-else-word-text
returns-else-word-text c = too_short _ _ c.if-word-text.false
