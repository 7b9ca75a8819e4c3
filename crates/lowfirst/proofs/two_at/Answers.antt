-- `lowfirst::two_at` meets its contract: the number of two bytes is the low one and 256 times the high one. Assumes nothing.
use Rattle.std.proofs.Common.{◌+◌, arith}
use Rattle.lowfirst.proofs.Places.{little_none, little_part}
use Rattle.lowfirst.proofs.two_at.Goals as goal

pub returns : goal.returns
returns c =
    let s = c.args.s.now in
    let at = c.args.at in
    let here = little_part s 1 at (at + 1) (omega arith) (omega arith) in
    let behind = little_part s 0 (at + 1) (at + 2) (omega arith) (omega arith) in
    let end = little_none s (at + 2) in
    (omega (arith, c.from.ensures, c.from_le_bytes.ensures, here, behind, end), omega (arith, c.from.ensures))
