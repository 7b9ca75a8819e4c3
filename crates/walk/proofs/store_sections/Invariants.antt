-- The sections of residues, stored by a loop.
use Rattle.walk.proofs.Stores.{SectionsPut}
use Rattle.walk.proofs.store_sections.Given as goal

abbrev pub invariant-loop-i : goal.invariant-loop-i
invariant-loop-i l = SectionsPut l.initial.sections l.n l.end l.next l.i l.sections
