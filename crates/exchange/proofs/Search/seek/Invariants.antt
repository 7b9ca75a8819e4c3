-- `exchange::seek` meets its contract. The loop's invariant: no placement has i below y, those below i unmoved.
use Rattle.placement_laws.specs.Standing.{place}
use Rattle.exchange.proofs.Least.{Passed}
use Rattle.exchange.specs.Table.{may_from}
use Rattle.exchange.proofs.Search.seek.Given as goal

abbrev pub invariant-loop-y : goal.invariant-loop-y
invariant-loop-y l = Passed (may_from l.self.tab.now l.self.lows) l.self.k l.i l.y (place l.w.at)
