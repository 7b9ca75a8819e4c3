-- A text that is shorter than the name does not end with it; else its last bytes are compared. Assumes nothing.
use Rattle.glycans.proofs.Texts.{ends_not, ends_so}
use Rattle.glycans.proofs.ends.Goals as goal

pub returns-then-name-text : goal.returns-then-name-text
returns-then-name-text c = ends_so _ _ c.if-name-text.true c.key_at.ensures

pub returns-else-name-text : goal.returns-else-name-text
returns-else-name-text c = ends_not _ _ c.if-name-text.false
