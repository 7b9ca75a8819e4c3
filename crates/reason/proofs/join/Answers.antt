use mathlib.Core.Path.{◌≡◌, sym, ◌∙◌, subst}
use Prim.Native.Nat.{◌<◌, ◌+◌}
use native.Mathlib.Omega.{arith}
use lib.ListN.{length, length-set}
use Rattle.scope.specs.Limits.{position_limit}
use Rattle.reason.specs.declared.Cover.{Cover}
use Rattle.reason.specs.Smallest.{marked_in}
use Rattle.reason.proofs.Laws.{count_top, Joining, join_had, join_not, join_more}
use Rattle.reason.proofs.join.Goals as goal
use Rattle.reason.proofs.join.Goals.{then-not-d-x+then-may, else-not-d-x, else-not-d-x-via-then-not-d-x+else-may, else-not-d-x-via-else-not-d-x}

pub overflow_add-d : goal.overflow_add-d
overflow_add-d c = omega (arith, c.loop-x.invariant.1.many, count_top position_limit (marked_in c.loop-x.d.at))

pub loop-x-preserved : goal.loop-x-preserved
loop-x-preserved c =
    let Turned : Cover → Type 0 = λ d. (length d.at ≡ position_limit) × Joining c.args.tab.now c.args.i (c.loop-x.x + 1) c.args.c.now.at d.n d.at in
    let v = c.loop-x.invariant in
    let at = c.loop-x.d.at in
    let x = c.loop-x.x in
    let inside : x < length at = omega (arith, v.0) in
    elim c.if-not-d-x.branch [
      | then-not-d-x+then-may w ↦ subst Turned (sym w.d-is) (
        simp length-set v.0,
        join_more _ _ x _ _ at v.1 (omega arith) inside w.if-not-d-x.true (sym w.may.ensures ∙ w.if-may.true),
      )
      | else-not-d-x w ↦ subst Turned (sym w.d-is) (
        v.0,
        elim w.else-not-d-x.branch [
          | else-not-d-x-via-then-not-d-x+else-may u ↦ join_not _ _ x _ _ at v.1 (sym u.may.ensures ∙ u.if-may.false)
          | else-not-d-x-via-else-not-d-x u ↦ join_had _ _ x _ _ at v.1 u.if-not-d-x.false
        ],
      )
    ]
