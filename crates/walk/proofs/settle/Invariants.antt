-- The rows of the brackets at the front, settled by a loop.
use Rattle.walk.proofs.Settling.{SettlingHeads}
use Rattle.walk.proofs.settle.Given as goal

abbrev pub invariant-loop-i : goal.invariant-loop-i
invariant-loop-i l = SettlingHeads l.first l.end l.i l.initial.sheet l.sheet
