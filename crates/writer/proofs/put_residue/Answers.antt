-- What opens a group, the letter, the brackets on the residue, and what closes the group where it does not go on. Assumes nothing.
use Prim.Native.Nat.{◌+◌, ◌-◌}
use Rattle.scope.specs.Lists.{tabled}
use Rattle.scope.specs.Layout.{residue_in, tables_in}
use mathlib.Core.Path.{sym, ◌∙◌}
use native.Mathlib.Nat.{le_refl}
use native.Mathlib.Omega.{arith}
use Rattle.writer.specs.Written.{residue_most}
use Rattle.writer.proofs.Walking.{walks_of, walks_up, walks_after, walks_then, room_behind, room_after}
use Rattle.writer.proofs.LineLaws.{residue_on, residue_off}
use Rattle.writer.proofs.put_residue.Goals as goal

pub put_opening-a-requires : goal.put_opening-a-requires
put_opening-a-requires c = omega (arith, c.requires.3.fits)

pub put-e-requires : goal.put-e-requires
put-e-requires c = omega (arith, c.put_opening-a.ensures.near, c.requires.3.fits)

pub put_run-pen-requires : goal.put_run-pen-requires
put_run-pen-requires c =
    let opened = room_behind {n = 2} (omega arith) c.put_opening-a.ensures c.requires.3 in
    (c.requires.0, c.requires.1, c.requires.2, room_behind (omega arith) c.put-e.ensures opened)

pub returns-then-goes_on : goal.returns-then-goes_on
returns-then-goes_on c =
    let a = c.args in
    walks_of (residue_on a.bytes.now (tables_in a.bytes.now a.numbers.now).brackets a.p (tabled (residue_in a.bytes.now) (a.p + 1) (a.n - (a.p + 1))) c.section-c.ensures.0 c.letter-b.ensures (sym c.goes_on.ensures ∙ c.if-goes_on.true))
    (walks_up (omega arith) (omega arith) (walks_after 3 (omega arith) c.put_opening-a.ensures (walks_after 1 (omega arith) c.put-e.ensures c.put_run-pen.ensures)))

pub put_ending-requires : goal.put_ending-requires
put_ending-requires c =
    let b = c.requires.0.bounds in
    let opened = room_behind {n = 2} (omega arith) c.put_opening-a.ensures c.requires.3 in
    let v = c.put_run-pen.ensures in (
      c.requires.0,
      v.within,
      (λ k h. omega (arith, v.below k h)),
      room_after (omega arith) v (room_behind {n = 1} (omega arith) c.put-e.ensures opened),
      omega (arith, b.few_residues, c.requires.4, c.requires.5),
    )

pub returns-else-goes_on : goal.returns-else-goes_on
returns-else-goes_on c =
    let b = c.requires.0.bounds in
    let a = c.args in
    walks_of (residue_off a.bytes.now (tables_in a.bytes.now a.numbers.now).brackets a.p (tabled (residue_in a.bytes.now) (a.p + 1) (a.n - (a.p + 1))) c.section-c.ensures.0 c.letter-b.ensures (sym c.goes_on.ensures ∙ c.if-goes_on.false))
    (walks_up (le_refl _) (omega arith)
    (walks_then residue_most (omega arith) (walks_after 3 (omega arith) c.put_opening-a.ensures (walks_after 1 (omega arith) c.put-e.ensures c.put_run-pen.ensures)) c.put_ending.ensures))
