-- `exchange::raised` meets its contract. The loop's invariant: what was raised up to s₀ is raised up to s, and all in between are further copies.
use mathlib.Core.Path.{◌≡◌}
use mathlib.Core.List.{List}
use Prim.Native.Nat.{ℕ}
use lib.ListN.{length}
use Rattle.scope.specs.Limits.{copy_limit}
use Rattle.exchange.specs.Table.{mark_in, RaisedTo}
use Rattle.exchange.proofs.raised.Given as goal

abbrev pub invariant-loop-s : goal.invariant-loop-s
invariant-loop-s l = (length l.lows ≡ copy_limit)
    × ((old : List ℕ) → RaisedTo (mark_in l.copy) l.k l.i l.low l.initial.s old l.initial.lows → RaisedTo (mark_in l.copy) l.k l.i l.low l.s old l.lows)
