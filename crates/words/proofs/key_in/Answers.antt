-- No byte spells no key; else the one key that first letter and size leave decides, by its word. Assumes nothing.
use Rattle.std.proofs.Common.{arith}
use Rattle.words.proofs.Words.{no_bytes, key_decided, key_refused}
use Rattle.words.proofs.key_in.Goals as goal

pub returns-in_default : goal.returns-in_default
returns-in_default c = no_bytes _ (omega arith)

pub returns-then-is : goal.returns-then-is
returns-then-is c = key_decided _ (omega arith) c.upper.ensures c.likely-key.ensures (rw c.word_of.ensures at c.is.ensures) c.if-is.true

pub returns-else-is : goal.returns-else-is
returns-else-is c = key_refused _ (omega arith) c.upper.ensures c.likely-key.ensures (rw c.word_of.ensures at c.is.ensures) c.if-is.false
