-- `reason::join` meets its contract. The loop's invariant: below x the cover has the positions of floater i too, from x on it is as it was, and its positions are counted.
use mathlib.Core.Path.{◌≡◌}
use lib.ListN.{length}
use Rattle.scope.specs.Limits.{position_limit}
use Rattle.reason.proofs.Laws.{Joining}
use Rattle.reason.proofs.join.Given as goal

abbrev pub invariant-loop-x : goal.invariant-loop-x
invariant-loop-x l = (length l.d.at ≡ position_limit) × Joining l.tab l.i l.x l.initial.d.at l.d.n l.d.at
