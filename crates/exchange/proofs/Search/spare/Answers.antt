use native.Mathlib.Omega.{arith}
use Rattle.exchange.proofs.Laws.{from_parts, parts_from, from_small, yes}
use Rattle.exchange.proofs.Search.spare.Goals as goal

pub returns-then-open_at : goal.returns-then-open_at
returns-then-open_at c =
    let v = yes _ _ c.if-open_at.true c.open_at.ensures in
    (parts_from _ _ _ _ (omega arith) v.0, v.1)

pub returns : goal.returns
returns c = λ x o. let z = from_parts _ _ _ x o in c.loop-x.invariant x (omega (arith, from_small _ _ _ x o)) z.0 z.1
