-- Nothing stands behind a run that wrote nothing, else the byte. Assumes nothing.
use native.Mathlib.Omega.{arith}
use Rattle.writer.proofs.Walking.{room_less, room_after}
use Rattle.writer.proofs.LineLaws.{walks_open, walks_closed}
use Rattle.writer.proofs.put_closed.Goals as goal

pub put_run-pen-requires : goal.put_run-pen-requires
put_run-pen-requires c = (c.requires.0, c.requires.1, c.requires.2, room_less (omega arith) c.requires.3)

pub returns-then-pen-at : goal.returns-then-pen-at
returns-then-pen-at c = walks_open _ c.put_run-pen.ensures c.if-pen-at.true

pub put-place-requires : goal.put-place-requires
put-place-requires c = omega (arith, (room_after {n = 1} (omega arith) c.put_run-pen.ensures c.requires.3).fits)

pub returns-else-pen-at : goal.returns-else-pen-at
returns-else-pen-at c = walks_closed _ c.put_run-pen.ensures c.if-pen-at.false c.put-place.ensures
