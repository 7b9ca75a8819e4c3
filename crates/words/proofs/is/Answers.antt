-- A text of another size than the word is not the word. Assumes nothing.
use Rattle.words.proofs.Words.{other_size}
use Rattle.words.proofs.is.Goals as goal

pub returns-else-word-text : goal.returns-else-word-text
returns-else-word-text c = other_size _ _ c.if-word-text.false
