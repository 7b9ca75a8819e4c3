-- The count, and the name before it. Assumes nothing.
use Rattle.glycans.proofs.Ending.{wrong_count_lem, no_name, name_room, piece_there}
use Rattle.glycans.proofs.last_piece.Goals as goal

pub returns-in_err-c : goal.returns-in_err-c
returns-in_err-c c = rw c.from_residual.ensures (wrong_count_lem c.args.text.now c.in_err-c.ensures)

pub returns-in_err-name : goal.returns-in_err-name
returns-in_err-name c = rw c.from_residual-in_err-name.ensures (no_name c.in_ok-c.ensures c.in_err-name.ensures)

pub overflow_sub-result : goal.overflow_sub-result
overflow_sub-result c = rw c.sugar_at.ensures.0 (name_room c.in_ok-c.ensures _ c.in_ok-name.ensures)

pub returns : goal.returns
returns c = rw c.sugar_at.ensures.0 (piece_there c.in_ok-c.ensures _ c.in_ok-name.ensures)
