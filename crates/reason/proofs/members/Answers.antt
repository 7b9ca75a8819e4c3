use mathlib.Core.Path.{refl, sym, subst}
use Prim.Native.Nat.{◌+◌}
use native.Mathlib.Omega.{arith}
use Rattle.scope.specs.declared.answers.Why.{Why}
use Rattle.reason.specs.Smallest.{marked_in}
use Rattle.reason.proofs.Names.{Naming, naming_start, naming_member, naming_other, room}
use Rattle.reason.proofs.members.Goals as goal
use Rattle.reason.proofs.members.Goals.{then-s-i, else-s-i}

pub loop-i-init : goal.loop-i-init
loop-i-init c = naming_start _ _

pub bounds-m-m : goal.bounds-m-m
bounds-m-m c = room c.loop-i.invariant c.requires (omega arith)

pub overflow_add-m-then-s-i : goal.overflow_add-m-then-s-i
overflow_add-m-then-s-i c = omega (arith, c.requires, room c.loop-i.invariant c.requires (omega arith))

pub loop-i-preserved : goal.loop-i-preserved
loop-i-preserved c =
    let i = c.loop-i.i in
    elim c.if-s-i.branch [
      | then-s-i w ↦ subst (λ (z : Why). Naming (marked_in c.args.s.marks) c.args.k (i + 1) z.count z.at) (sym w.m-is)
          (naming_member c.loop-i.invariant c.requires (omega arith) w.if-s-i.true refl)
      | else-s-i w ↦ subst (λ (z : Why). Naming (marked_in c.args.s.marks) c.args.k (i + 1) z.count z.at) (sym w.m-is)
          (naming_other c.loop-i.invariant c.requires (omega arith) w.if-s-i.false)
    ]
