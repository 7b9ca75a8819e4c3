-- `exchange::settle` meets its contract. The loop's invariant: w agrees with where the search began below `from`, and is the least up to i.
use Rattle.exchange.proofs.Least.{Settling}
use Rattle.placement_laws.specs.Standing.{place}
use Rattle.exchange.specs.Table.{may_from}
use Rattle.exchange.proofs.Search.settle.Given as goal

abbrev pub invariant-loop-i : goal.invariant-loop-i
invariant-loop-i l = Settling (may_from l.self.tab.now l.self.lows) l.self.k l.from l.i (place l.initial.w.at) (place l.w.at)
