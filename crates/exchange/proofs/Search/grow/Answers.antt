use mathlib.Core.Path.{◌≡◌, sym, ◌∙◌}
use mathlib.Core.Bool.{true, true≢false}
use Prim.Native.Nat.{ℕ, ◌≤◌, ◌<◌, ◌+◌}
use mathlib.Core.List.{List}
use native.Mathlib.Omega.{arith}
use lib.ListN.{length, set, length-set}
use Rattle.scope.specs.Limits.{copy_limit}
use Rattle.placement_laws.specs.Standing.{place}
use Rattle.exchange.specs.declared.Tree.{Tree}
use Rattle.exchange.specs.Table.{may_from, Growing, Grew}
use Rattle.exchange.proofs.Laws.{yes, no, grown_le, grown_less, grew_same, grew_push, stands_well, growing_on, grew_trans}
use Rattle.exchange.proofs.Search.grow.Goals as goal
use Rattle.exchange.proofs.Search.grow.Goals.{then-not-lists+then-may_from, else-not-lists, else-not-lists-via-then-not-lists+else-may_from, else-not-lists-via-else-not-lists}

few : {tab lows : List ℕ} {k f h : ℕ} {w : List ℕ} {n : ℕ} {order parent : List ℕ} → Growing tab lows k f h w n order parent → n ≤ copy_limit
few {tab} {lows} {k} {f} {h} {w} {n} {order} {parent} g =
    omega (arith, g.sized.few, grown_le (may_from tab lows) k f (place order 0) (place w) n (place order) (place parent) g.grown)

-- a new floater that stands where the h-th may: there are fewer in the tree than floaters
room : (tab lows : List ℕ) (k f h : ℕ) (w : List ℕ) (n : ℕ) (order parent : List ℕ) (t : ℕ) → Growing tab lows k f h w n order parent → f ≤ t → t < k
    → ((a : ℕ) → a < n → place order a ≡ t → ⊥) → may_from tab lows (place order h) (place w t) ≡ true → n < copy_limit
room tab lows k f h w n order parent t g ft tk new o =
    omega (arith, g.sized.few, grown_less (may_from tab lows) k f (place order 0) (place w) n (place order) (place parent) h t g.grown ft tk g.inside new o)

-- the tree after a turn
abbrev Turned : (tab lows : List ℕ) (k f h : ℕ) (w : List ℕ) (t n : ℕ) (order : List ℕ) → Tree → Type 0
Turned tab lows k f h w t n order r = (length r.order ≡ copy_limit) × (length r.parent ≡ copy_limit) × Grew tab lows k f h w t (t + 1) n order r.n r.order r.parent

-- a tree with t behind the others
more_tree : (tab lows : List ℕ) (k f h : ℕ) (w : List ℕ) (t : ℕ) (g r : Tree) → length g.order ≡ copy_limit → length g.parent ≡ copy_limit → Growing tab lows k f h w g.n g.order g.parent
    → f ≤ t → t < k → ((a : ℕ) → a < g.n → place g.order a ≡ t → ⊥) → may_from tab lows (place g.order h) (place w t) ≡ true
    → (r.n ≡ g.n + 1) × (r.order ≡ set g.order g.n t) × (r.parent ≡ set g.parent g.n h) → Turned tab lows k f h w t g.n g.order r
more_tree tab lows k f h w t g r o p now ft tk new here e =
    let m = room tab lows k f h w g.n g.order g.parent t now ft tk new here in (
      rw (e.1, length-set g.order g.n t) o,
      rw (e.2, length-set g.parent g.n h) p,
      rw (e.0, e.1, e.2) (grew_push tab lows k f h w t g.n g.order g.parent now ft tk new here (rw o m) (rw p m)),
    )

pub loop-t-preserved : goal.loop-t-preserved
loop-t-preserved c =
    let l = c.loop-t in
    let g = c.requires in
    let v = l.invariant in
    let now = growing_on _ _ _ _ _ _ _ _ _ _ _ _ _ _ g v.2 in
    let same = v.2.same c.args.h g.inside in
    let z : Turned c.args.self.now.tab.now c.args.self.now.lows c.args.self.now.k c.args.f c.args.h c.args.w.now.at l.t l.tree.n l.tree.order c.if-not-lists.tree =
    elim c.if-not-lists.branch [
      | then-not-lists+then-may_from w ↦
          rw w.tree-is (more_tree _ _ _ _ _ _ l.t l.tree _ v.0 v.1 now (omega arith) (omega arith) (no _ _ w.if-not-lists.true c.lists.ensures)
          (rw (sym same) (sym w.may_from.ensures ∙ w.if-may_from.true)) w.push.ensures)
      | else-not-lists w ↦
          rw w.tree-is (
            v.0,
            v.1,
            grew_same _ _ _ _ _ _ l.t _ _ _ now (elim w.else-not-lists.branch [
              | else-not-lists-via-then-not-lists+else-may_from u ↦ λ o. absurd (true≢false (sym (rw (sym same) at o) ∙ sym u.may_from.ensures ∙ u.if-may_from.false))
              | else-not-lists-via-else-not-lists u ↦ λ o. yes _ _ u.if-not-lists.false c.lists.ensures
            ]),
          )
    ] in
    (z.0, z.1, grew_trans _ _ _ _ _ _ _ _ _ _ _ _ _ _ _ _ g v.2 z.2)

pub offset_bounds-tree-h : goal.offset_bounds-tree-h
offset_bounds-tree-h c = let g = c.requires in omega (arith, few g, g.inside)

pub bounds-tree-h : goal.bounds-tree-h
bounds-tree-h c = let g = c.requires in omega (arith, few g, g.inside)

pub lists-requires : goal.lists-requires
lists-requires c = few (growing_on _ _ _ _ _ _ _ _ _ _ _ _ _ _ c.requires c.loop-t.invariant.2)

pub may_from-requires : goal.may_from-requires
may_from-requires c =
    let g = c.requires in
    let now = growing_on _ _ _ _ _ _ _ _ _ _ _ _ _ _ g c.loop-t.invariant.2 in
    let new = no _ _ c.if-not-lists.true c.lists.ensures in
    (g.sized.room, omega (arith, g.grown.high c.args.h g.inside, g.sized.few), stands_well _ _ _ _ _ _ now.but (omega arith) (λ e. new 0 now.grown.some (sym e)))

pub push-requires : goal.push-requires
push-requires c =
    let g = c.requires in
    let now = growing_on _ _ _ _ _ _ _ _ _ _ _ _ _ _ g c.loop-t.invariant.2 in
    room _ _ _ _ _ _ _ _ _ _ now (omega arith) (omega arith) (no _ _ c.if-not-lists.true c.lists.ensures)
    (rw (sym (c.loop-t.invariant.2.same c.args.h g.inside)) (sym c.may_from.ensures ∙ c.if-may_from.true))
