-- `store::store_brackets` meets its contract: one bracket after another. Assumes nothing.
use Rattle.store.proofs.BracketLaws.{StoringBrackets}
use Rattle.store.proofs.store_brackets.Given as goal

abbrev pub invariant-loop-k : goal.invariant-loop-k
invariant-loop-k l = StoringBrackets l.line l.sheet.heads l.sheet.parts l.sheet.masses l.sheet.scores l.n l.initial.bytes l.initial.numbers l.k l.t l.bytes l.numbers
