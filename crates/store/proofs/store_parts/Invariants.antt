-- `store::store_parts` meets its contract: one part after another. Assumes nothing.
use Rattle.store.proofs.PartsLaws.{StoringParts}
use Rattle.store.proofs.store_parts.Given as goal

abbrev pub invariant-loop-j : goal.invariant-loop-j
invariant-loop-j l = StoringParts l.line l.sheet.parts l.sheet.masses l.m l.n l.k l.t l.initial.bytes l.initial.numbers l.j l.u l.bytes l.numbers
