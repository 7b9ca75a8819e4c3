-- Piece by piece from the right: its digits, and its name before them. Assumes nothing.
use Rattle.std.proofs.Common.{arith}
use Rattle.glycans.proofs.Putting.{short_start, room_digits, room_name, short_next, putting_ends}
use Rattle.glycans.proofs.put_short.Goals as goal

pub loop-p-init : goal.loop-p-init
loop-p-init c = short_start _ c.requires.2 c.requires.3

pub put_digits-a-requires : goal.put_digits-a-requires
put_digits-a-requires c = (omega (arith, c.in-Some.ensures.few), room_digits c.loop-p.invariant c.in-Some.ensures)

pub put_name-a-requires : goal.put_name-a-requires
put_name-a-requires c = room_name c.loop-p.invariant c.in-Some.ensures c.put_digits-a.ensures

pub loop-p-preserved : goal.loop-p-preserved
loop-p-preserved c = short_next c.loop-p.invariant c.in-Some.ensures c.put_digits-a.ensures c.put_name-a.ensures

pub returns : goal.returns
returns c = putting_ends c.loop-p.invariant c.in_default.ensures
