-- The pieces of a line one behind the other, each in the room that those before it leave. Assumes nothing.
use Prim.Native.Nat.{◌+◌}
use native.Mathlib.Nat.{le_refl}
use native.Mathlib.Omega.{arith}
use Rattle.writer.specs.Written.{residues_most}
use Rattle.figures.proofs.Storing.{puts_of, puts_within}
use Rattle.writer.proofs.RankLaws.{ready}
use Rattle.writer.proofs.Walking.{walks_before, walks_then, room_line, room_less, room_after}
use Rattle.writer.proofs.LineLaws.{line_text}
use Rattle.writer.proofs.put_line.Goals as goal

pub put_front-front-requires : goal.put_front-front-requires
put_front-front-requires c = (ready _ _ c.requires.0 c.requires.1, room_less (omega arith) (room_line c.requires.0.few_brackets_lem c.requires.2))

pub put_sequence-sequence-requires : goal.put_sequence-sequence-requires
put_sequence-sequence-requires c =
    let w = c.put_front-front.ensures in
    let whole = room_line c.requires.0.few_brackets_lem c.requires.2 in
    (ready _ _ c.requires.0 c.requires.1, w.within, w.below, room_after (omega arith) w whole)

pub put_c_term-requires : goal.put_c_term-requires
put_c_term-requires c =
    let w = c.put_front-front.ensures in
    let y = c.put_sequence-sequence.ensures in
    let whole = room_line c.requires.0.few_brackets_lem c.requires.2 in
    (ready _ _ c.requires.0 c.requires.1, y.within, y.below, room_after (omega arith) y (room_after {n = residues_most + 1} (omega arith) w whole))

pub returns : goal.returns
returns c =
    let b = c.requires.0 in
    let y = c.put_sequence-sequence.ensures in
    let whole = walks_then _ (le_refl _) c.put_front-front.ensures (walks_before _ (le_refl _) y c.put_c_term.ensures) in
    puts_within (omega (arith, y.within, b.few_brackets_lem)) (puts_of (line_text c.args.bytes.now c.args.numbers.now) whole.puts)
