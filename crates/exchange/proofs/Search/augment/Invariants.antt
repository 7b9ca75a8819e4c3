-- `exchange::augment` meets its contract. The loop's invariant: the tree has grown from j, and each of the first h in it finds every position where it may stand
-- taken by one in the tree. So a spare position is passed up to j, and a tree whose floaters are all passed shows that no placement agrees below f.
use Prim.Native.Nat.{◌-◌}
use Rattle.exchange.proofs.Laws.{Searching}
use Rattle.exchange.proofs.Search.augment.Given as goal

abbrev pub invariant-loop-h : goal.invariant-loop-h
invariant-loop-h l = Searching l.self.tab.now l.self.lows l.self.k l.f l.j l.w.at l.tree.n l.tree.order l.tree.parent l.h

abbrev pub decreases-loop-h : goal.decreases-loop-h
decreases-loop-h l = l.self.k - l.h
