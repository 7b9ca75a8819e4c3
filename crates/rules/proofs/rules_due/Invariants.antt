-- `rules_due` meets its contract: the loop's invariant is that what the brackets passed give, codes and copies, with those ahead is what all give.
-- Assumes nothing.
use Rattle.rules.proofs.Gathered.{Gathering}
use Rattle.rules.proofs.rules_due.Given as goal

abbrev pub invariant-loop-k : goal.invariant-loop-k
invariant-loop-k l = Gathering l.line l.sheet.heads l.sheet.parts l.n l.least l.first l.floaters l.k
