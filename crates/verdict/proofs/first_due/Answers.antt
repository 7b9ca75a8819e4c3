-- `first_due` meets its contract: what is met is the first, where it is one of 5 to 9; else it is, with what the rules find. Assumes nothing.
use Rattle.verdict.proofs.Judging.{met_is_first, all_noted, ruled_is_first}
use Rattle.verdict.proofs.first_due.Goals as goal

pub returns-then-least-lt-RULED : goal.returns-then-least-lt-RULED
returns-then-least-lt-RULED c = met_is_first c.requires c.if-least-lt-RULED.true

pub rules_due-requires : goal.rules_due-requires
rules_due-requires c = (_, all_noted c.requires c.if-least-lt-RULED.false)

pub returns : goal.returns
returns c = ruled_is_first c.requires c.if-least-lt-RULED.false c.rules_due.ensures
