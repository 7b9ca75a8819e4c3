-- `reason::members` meets its contract: so far the numbers of the members among the first i floaters stand at the front. Assumes nothing.
use Rattle.reason.specs.Smallest.{marked_in}
use Rattle.reason.proofs.Names.{Naming}
use Rattle.reason.proofs.members.Given as goal

abbrev pub invariant-loop-i : goal.invariant-loop-i
invariant-loop-i l = Naming (marked_in l.fn.s.marks) l.k l.i l.m.count l.m.at
