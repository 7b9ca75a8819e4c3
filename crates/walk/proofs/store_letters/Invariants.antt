-- The letters of residues, stored by a loop.
use Rattle.walk.proofs.Stores.{LettersPut}
use Rattle.walk.proofs.store_letters.Given as goal

abbrev pub invariant-loop-i : goal.invariant-loop-i
invariant-loop-i l = LettersPut l.initial.letters l.n l.line l.at l.m l.i l.letters
