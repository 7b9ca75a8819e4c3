use Prim.Native.Nat.{◌≤◌}
use native.Mathlib.Omega.{arith}
use Rattle.scope.specs.Limits.{copy_limit}
use Rattle.exchange.specs.Table.{Walkable}
use Rattle.exchange.proofs.Laws.{searching_few, searching_walk, searching_found, searching_step, searching_end}
use Rattle.exchange.proofs.Search.augment.Goals as goal

pub returns-in-Some : goal.returns-in-Some
returns-in-Some c =
    let e = c.in-Some.ensures in
    searching_found _ _ _ _ _ _ c.requires _ _ _ _ c.loop-h.invariant _ c.shift.result.at c.loop-h-test.true e.0 e.1 c.shift.ensures

pub loop-h-preserved : goal.loop-h-preserved
loop-h-preserved c =
    searching_step _ _ _ _ _ _ c.requires _ _ _ _ c.loop-h.invariant _ _ _ c.loop-h-test.true c.in_default.ensures c.grow.ensures

pub returns : goal.returns
returns c = searching_end _ _ _ _ _ _ c.requires _ _ _ _ c.loop-h.invariant c.loop-h-test.false

pub offset_bounds-tree-h : goal.offset_bounds-tree-h
offset_bounds-tree-h c =
    let below : c.loop-h.tree.n ≤ c.args.self.now.k = searching_few _ _ _ _ _ _ c.requires _ _ _ _ c.loop-h.invariant in
    omega (arith, c.requires.sized.few, below)

pub bounds-tree-h : goal.bounds-tree-h
bounds-tree-h c =
    let below : c.loop-h.tree.n ≤ c.args.self.now.k = searching_few _ _ _ _ _ _ c.requires _ _ _ _ c.loop-h.invariant in
    omega (arith, c.requires.sized.few, below)

pub shift-requires : goal.shift-requires
shift-requires c =
    let walk : Walkable c.loop-h.tree.n c.loop-h.h c.loop-h.tree.order c.loop-h.tree.parent = searching_walk _ _ _ _ _ _ c.requires _ _ _ _ c.loop-h.invariant c.loop-h-test.true in
    walk

pub overflow_add-h : goal.overflow_add-h
overflow_add-h c =
    let below : c.loop-h.tree.n ≤ c.args.self.now.k = searching_few _ _ _ _ _ _ c.requires _ _ _ _ c.loop-h.invariant in
    let few : c.loop-h.tree.n ≤ copy_limit = omega (arith, c.requires.sized.few, below) in
    omega (arith, few)

pub loop-h-smaller : goal.loop-h-smaller
loop-h-smaller c =
    let below : c.loop-h.tree.n ≤ c.args.self.now.k = searching_few _ _ _ _ _ _ c.requires _ _ _ _ c.loop-h.invariant in
    omega (arith, below, c.loop-h-test.true)
