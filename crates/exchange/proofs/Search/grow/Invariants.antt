-- `exchange::grow` meets its contract. The loop's invariant: the tree has grown by every floater below t that stands where the h-th may. A turn finds t listed already;
-- or it is new and stands where the h-th may, so it is listed behind the others, of which there are then fewer than floaters; or it stands elsewhere.
use mathlib.Core.Path.{◌≡◌}
use lib.ListN.{length}
use Rattle.scope.specs.Limits.{copy_limit}
use Rattle.exchange.specs.Table.{Grew}
use Rattle.exchange.proofs.Search.grow.Given as goal

abbrev pub invariant-loop-t : goal.invariant-loop-t
invariant-loop-t l =
    (length l.tree.order ≡ copy_limit) × (length l.tree.parent ≡ copy_limit)
    × Grew l.self.tab.now l.self.lows l.self.k l.f l.h l.w.at l.f l.t l.initial.tree.n l.initial.tree.order l.tree.n l.tree.order l.tree.parent
