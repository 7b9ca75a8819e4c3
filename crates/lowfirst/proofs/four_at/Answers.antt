-- `lowfirst::four_at` meets its contract: the number of four bytes, byte by byte. Assumes nothing.
use Rattle.std.proofs.Common.{◌+◌, arith}
use Rattle.lowfirst.proofs.Places.{little_none, little_part}
use Rattle.lowfirst.proofs.four_at.Goals as goal

pub returns : goal.returns
returns c =
    let s = c.args.s.now in
    let at = c.args.at in
    let first = little_part s 3 at (at + 1) (omega arith) (omega arith) in
    let second = little_part s 2 (at + 1) (at + 2) (omega arith) (omega arith) in
    let third = little_part s 1 (at + 2) (at + 3) (omega arith) (omega arith) in
    let fourth = little_part s 0 (at + 3) (at + 4) (omega arith) (omega arith) in
    let end = little_none s (at + 4) in
    omega (arith, c.from_le_bytes.ensures, first, second, third, fourth, end)
