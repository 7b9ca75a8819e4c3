-- 19, then 15, else the pieces are put: by what `cut` says of the whole text. Assumes nothing.
use Rattle.glycans.proofs.Texts.{part_whole}
use Rattle.glycans.proofs.Said.{all_long, no_room, all_written}
use Rattle.glycans.proofs.pieces.Goals as goal

pub returns-then-out-n : goal.returns-then-out-n
returns-then-out-n c = no_room (rw part_whole at c.in-Some.ensures) c.if-out-n.true

pub put_pieces-requires : goal.put_pieces-requires
put_pieces-requires c =
    let w = rw part_whole at c.in-Some.ensures in
    (w.cuts, all_long w, c.if-out-n.false)

pub returns : goal.returns
returns c = all_written (rw part_whole at c.in-Some.ensures) c.if-out-n.false c.put_pieces.ensures
