-- `)` and the run of brackets on the range. Assumes nothing.
use native.Mathlib.Omega.{arith}
use Rattle.writer.proofs.Walking.{walks_after, walks_up, room_behind}
use Rattle.writer.proofs.put_range_end.Goals as goal

pub put-a-requires : goal.put-a-requires
put-a-requires c = omega (arith, c.requires.3.fits)

pub put_run-requires : goal.put_run-requires
put_run-requires c = (c.requires.0, c.requires.1, c.requires.2, room_behind (omega arith) c.put-a.ensures c.requires.3)

pub returns : goal.returns
returns c = walks_up (omega arith) (omega arith) (walks_after 1 (omega arith) c.put-a.ensures c.put_run.ensures)
