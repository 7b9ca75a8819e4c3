-- Behind the last byte: the line holds what is held, or it is stuck at its end.
use mathlib.Core.Path.{sym, ◌∙◌}
use Rattle.walk.proofs.Further.{line_holds, line_stuck}
use Rattle.walk.proofs.line_ended.Goals as goal

pub returns-then-may_end : goal.returns-then-may_end
returns-then-may_end c t u = line_holds u c.requires (sym c.may_end.ensures ∙ c.if-may_end.true)

pub returns : goal.returns
returns c t u = line_stuck u c.requires (sym c.may_end.ensures ∙ c.if-may_end.false)
