use native.Mathlib.Omega.{arith}
use Prim.Native.Nat.{◌<◌}
use mathlib.Core.Path.{◌≡◌}
use lib.ListN.{length}
use borrow.Author.Rules.{rules}
use Rattle.scope.specs.Limits.{copy_limit, position_limit}
use Rattle.reason.specs.Smallest.{marked_in}
use Rattle.reason.proofs.Laws.{count_top, hunt_prune, hunt_late, hunt_on, hunt_off, hunt_both, decided_yes, decided_no}
use Rattle.reason.proofs.+hunt.Goals as goal

pub overflow_add-c : goal.overflow_add-c
overflow_add-c t c = omega (arith, c.requires.many, count_top position_limit (marked_in c.args.c.now.at))

pub returns-then-best-c : goal.returns-then-best-c
returns-then-best-c t c = hunt_prune _ _ _ _ _ _ _ c.requires _ c.args.best.marks c.if-best-c.true

pub overflow_add-m : goal.overflow_add-m
overflow_add-m t c = omega (arith, c.requires.size, c.requires.inside, c.requires.sized.few, count_top c.args.i (marked_in c.args.m.marks))

pub returns-then-m-k : goal.returns-then-m-k
returns-then-m-k t c = hunt_late _ _ _ _ _ _ _ c.requires _ c.args.best.marks c.if-m-k.true

pub overflow_add-on : goal.overflow_add-on
overflow_add-on t c = omega (arith, c.requires.size, count_top c.args.i (marked_in c.args.m.marks), c.requires.sized.few, c.if-i-k.true)

pub hunt-b-requires : goal.hunt-b-requires
hunt-b-requires t c =
    let a = c.args in
    let l = c.if-i-k.true in
    let long : length a.m.marks ≡ copy_limit = search rules in
    let has_mark : a.i < length a.m.marks = omega (arith, l, long, c.requires.sized.few) in
    (omega (arith, c.decreases, l), hunt_on _ _ _ _ a.m.marks _ a.c.now.at c.requires l has_mark _ c.join-d.result.at c.join-d.ensures)

pub hunt-requires : goal.hunt-requires
hunt-requires t c =
    let a = c.args in
    let l = c.if-i-k.true in
    let long : length a.m.marks ≡ copy_limit = search rules in
    let has_mark : a.i < length a.m.marks = omega (arith, l, long, c.requires.sized.few) in
    (omega (arith, c.decreases, l), hunt_off _ _ _ _ a.m.marks _ a.c.now.at c.requires l has_mark)

pub returns-then-i-k : goal.returns-then-i-k
returns-then-i-k t c =
    let a = c.args in
    let l = c.if-i-k.true in
    let long : length a.m.marks ≡ copy_limit = search rules in
    let has_mark : a.i < length a.m.marks = omega (arith, l, long, c.requires.sized.few) in
    hunt_both _ _ _ _ a.m.marks _ a.c.now.at c.requires l has_mark _ a.best.marks _ c.hunt-b.result.marks _ c.hunt.result.marks c.hunt-b.ensures c.hunt.ensures

pub returns-then-m-best : goal.returns-then-m-best
returns-then-m-best t c =
    decided_yes _ _ _ _ _ _ _ c.requires c.if-i-k.false _ _ (omega (arith, c.if-m-k.false, c.if-i-k.false)) c.if-m-best.true

pub returns-else-m-best : goal.returns-else-m-best
returns-else-m-best t c = decided_no _ _ _ _ _ _ _ c.requires c.if-i-k.false _ _ c.if-m-best.false
