-- No run is looked for where no bracket has a rank of theirs; else the four runs stand one behind the other. Assumes nothing.
use native.Mathlib.Nat.{le_refl}
use native.Mathlib.Omega.{arith}
use Rattle.writer.specs.Written.{front_most}
use Rattle.figures.proofs.Storing.{puts_none, puts_within}
use Rattle.writer.proofs.Walking.{walks_of, walks_still, walks_then, walks_up, room_less, room_after}
use Rattle.writer.proofs.LineLaws.{front_none}
use Rattle.writer.proofs.put_front.Goals as goal

pub returns-then-next_rank-gt-N_TERM : goal.returns-then-next_rank-gt-N_TERM
returns-then-next_rank-gt-N_TERM c =
    let clear = c.next_rank.ensures _ c.requires.0 in
    walks_of (front_none c.args.bytes.now c.args.numbers.now clear c.if-next_rank-gt-N_TERM.true)
    (walks_still (puts_within (omega arith) (puts_none _ _)) (omega arith) (λ i h. absurd (omega arith)))

pub put_run-declared-requires : goal.put_run-declared-requires
put_run-declared-requires c = (c.requires.0, omega arith, (λ i h. absurd (omega arith)), room_less (omega arith) c.requires.1)

pub put_closed-unknown-requires : goal.put_closed-unknown-requires
put_closed-unknown-requires c =
    let x = c.put_run-declared.ensures in
    (c.requires.0, x.within, x.below, room_after (omega arith) x c.requires.1)

pub put_run-labile-requires : goal.put_run-labile-requires
put_run-labile-requires c =
    let v = c.put_closed-unknown.ensures in
    (c.requires.0, v.within, v.below, room_after (omega arith) v (room_after {n = front_most} (omega arith) c.put_run-declared.ensures c.requires.1))

pub put_closed-requires : goal.put_closed-requires
put_closed-requires c =
    let w = c.put_run-labile.ensures in
    let left = room_after {n = front_most} (omega arith) c.put_run-declared.ensures c.requires.1 in
    (c.requires.0, w.within, w.below, room_after (omega arith) w (room_after {n = 1} (omega arith) c.put_closed-unknown.ensures left))

pub returns : goal.returns
returns c =
    let chain = walks_then front_most (le_refl _) c.put_closed-unknown.ensures (walks_then 1 (le_refl _) c.put_run-labile.ensures c.put_closed.ensures) in
    walks_up (le_refl _) (omega arith) (walks_then _ (le_refl _) c.put_run-declared.ensures chain)
