-- `reason::smallest` meets its contract: no floater is decided at the start, and one more than k floaters are beaten by any set with too few positions.
use mathlib.Core.Bool.{false}
use lib.ListN.{get_or-replicate}
use Rattle.scope.specs.Limits.{position_limit}
use Rattle.reason.proofs.Laws.{hunt_start, hunt_found, hunt_none}
use Rattle.reason.proofs.smallest.Goals as goal

pub hunt-s-requires : goal.hunt-s-requires
hunt-s-requires c = hunt_start _ _ _ _ c.requires (λ x l. get_or-replicate position_limit x false false l)

pub returns-then-s-k : goal.returns-then-s-k
returns-then-s-k c = hunt_found c.hunt-s.ensures c.if-s-k.true

pub returns-else-s-k : goal.returns-else-s-k
returns-else-s-k c = hunt_none c.hunt-s.ensures c.if-s-k.false
