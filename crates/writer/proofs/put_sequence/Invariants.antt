-- The invariant: the first p residues are spelt. Residues by themselves and one more keep it. Assumes nothing.
use Prim.Native.Nat.{◌-◌}
use Rattle.writer.specs.Ranks.{SpeltResidues}
use Rattle.writer.proofs.put_sequence.Given as goal

abbrev pub invariant-loop-p : goal.invariant-loop-p
invariant-loop-p l = SpeltResidues l.bytes l.numbers l.n l.from l.initial.out l.at l.out l.p l.j l.a

abbrev pub decreases-loop-p : goal.decreases-loop-p
decreases-loop-p l = l.n - l.p
