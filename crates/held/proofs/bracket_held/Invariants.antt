-- `held::bracket_held` meets its contract. The loop: the parts from j on are left. Assumes nothing.
use Rattle.held.proofs.BracketLaws.{HoldingParts}
use Rattle.held.proofs.bracket_held.Given as goal

abbrev pub invariant-loop-j : goal.invariant-loop-j
invariant-loop-j l = HoldingParts l.line l.sheet.heads l.sheet.parts l.sheet.masses l.sheet.scores l.k l.bytes l.numbers l.m l.n l.t l.j l.u
