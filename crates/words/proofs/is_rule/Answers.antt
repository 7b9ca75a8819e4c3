-- No text that begins otherwise than with a C. Assumes nothing.
use Rattle.std.proofs.Common.{arith}
use Rattle.words.proofs.Rules.{rule_empty, rule_elsewhere}
use Rattle.words.proofs.is_rule.Goals as goal

pub returns-in_default : goal.returns-in_default
returns-in_default c = rule_empty _ c.in_default.len_below

pub returns-else-upper-eq67 : goal.returns-else-upper-eq67
returns-else-upper-eq67 c = rule_elsewhere _ (omega arith) c.upper.ensures c.if-upper-eq67.false
