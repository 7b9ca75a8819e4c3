-- Piece by piece from the right, two bytes each, until nothing is left. Assumes nothing.
use Rattle.std.proofs.Common.{arith, rules, add-one}
use lib.ListN.{length-set}
use Rattle.glycans.proofs.Putting.{put_laid, name_byte, pieces_start, room_pair, pieces_next, putting_ends, empty_last}
use Rattle.glycans.proofs.put_pieces.Goals as goal

pub loop-rest-init : goal.loop-rest-init
loop-rest-init c = pieces_start _ c.requires.0 c.requires.1 c.requires.2

pub overflow_sub-a : goal.overflow_sub-a
overflow_sub-a c = (room_pair c.loop-rest.invariant c.in-Some.ensures).0

pub overflow_cast-out : goal.overflow_cast-out
overflow_cast-out c = omega (arith, name_byte c.loop-rest.invariant c.in-Some.ensures)

pub bounds-out-a : goal.bounds-out-a
bounds-out-a c = omega (arith, room_pair c.loop-rest.invariant c.in-Some.ensures)

pub bounds-out-a-in-loop-rest : goal.bounds-out-a-in-loop-rest
bounds-out-a-in-loop-rest c = simp length-set (omega (arith, room_pair c.loop-rest.invariant c.in-Some.ensures))

pub loop-rest-preserved : goal.loop-rest-preserved
loop-rest-preserved c = pieces_next c.loop-rest.invariant c.in-Some.ensures (add-one _)

pub returns-after-loop-rest : goal.returns-after-loop-rest
returns-after-loop-rest c = put_laid (putting_ends c.loop-rest.invariant (empty_last c.loop-rest.rest.now (search rules))) c.requires.1 c.requires.2

pub returns-in-loop-rest : goal.returns-in-loop-rest
returns-in-loop-rest c = put_laid (putting_ends c.loop-rest.invariant (search rules)) c.requires.1 c.requires.2
