-- Whatever class the calls tell of: the bytes of it that start at `to` end where those that start at `at` do.
use Prim.Native.Nat.{ℕ}
use mathlib.Core.Path.{◌≡◌}
use mathlib.Core.Bool.{Bool}
use Rattle.classes.proofs.Runs.{RunGoesOn}
use Rattle.classes.proofs.run_end.Given as goal

abbrev pub invariant-loop-to : goal.invariant-loop-to
invariant-loop-to g l = (p : ℕ → Bool) → ((b : ℕ) (x : Bool) → g.F.Fn.post l.class (b, tt) x → x ≡ p b) → RunGoesOn p l.line l.at l.to
