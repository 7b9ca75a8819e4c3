-- The proof of the recursion of `reason::hunt`. The measure is the number of floaters that are not decided. Each return cites the law of its arm, each call that of what it begins with.
use Prim.Native.Nat.{◌-◌}
use Rattle.reason.proofs.+hunt.Given as goal

abbrev pub decreases-hunt : goal.decreases-hunt
decreases-hunt l = l.k - l.i
