-- `is_named` meets its contract: the loop's invariant is that the brackets passed do not name it. Assumes nothing.
use Rattle.rules.proofs.Searched.{NotNamed}
use Rattle.rules.specs.Told.{name_at}
use Rattle.rules.proofs.is_named.Given as goal

abbrev pub invariant-loop-k : goal.invariant-loop-k
invariant-loop-k l = NotNamed l.line l.sheet.heads l.sheet.parts l.refers (name_at l.line l.sheet.parts l.x) l.e l.k
