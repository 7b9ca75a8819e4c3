-- `exchange::first` meets its contract. The loop's invariant: the first m floaters all stand. One that cannot be placed beside those before it leaves no
-- placement at all; once all stand, `settle` from the first floater on gives the least.
use Rattle.placement_laws.specs.Standing.{place, Full}
use Rattle.exchange.specs.Table.{may_from}
use Rattle.exchange.proofs.first.Given as goal

abbrev pub invariant-loop-m : goal.invariant-loop-m
invariant-loop-m l = Full (may_from l.tab l.lows) l.m (place l.w.at)
