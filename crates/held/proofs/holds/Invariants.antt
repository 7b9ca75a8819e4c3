-- `held::holds` meets its contract. The loop: the brackets from k on are left. Assumes nothing.
use Rattle.held.proofs.LineLaws.{HoldingBrackets}
use Rattle.held.proofs.holds.Given as goal

abbrev pub invariant-loop-k : goal.invariant-loop-k
invariant-loop-k l = HoldingBrackets l.line l.sheet l.residues l.brackets l.bytes l.numbers l.k l.t
