-- `exchange::lowest` meets its contract. The loop's invariant: no floater below s may stand below its least position.
use mathlib.Core.Path.{◌≡◌}
use lib.ListN.{length}
use Rattle.scope.specs.Limits.{copy_limit}
use Rattle.exchange.specs.Table.{Lowest}
use Rattle.exchange.proofs.lowest.Given as goal

abbrev pub invariant-loop-s : goal.invariant-loop-s
invariant-loop-s l = (length l.lows ≡ copy_limit) × Lowest l.tab l.s l.lows
