-- `calls::write` meets its contract: 14 where there is no line, 15 where it has no room, else it is copied.
use Rattle.calls.proofs.WriteLaws.{no_tables_14, no_room_15, written}
use Rattle.calls.proofs.write.Goals as goal

pub returns-in_default : goal.returns-in_default
returns-in_default c = no_tables_14 _ _ _ c.in_ok-bytes.ensures c.in_default.ensures

pub returns-then-out-n : goal.returns-then-out-n
returns-then-out-n c = no_room_15 _ _ _ c.in_ok-bytes.ensures c.in-Some.ensures c.if-out-n.true

pub returns : goal.returns
returns c = written _ _ _ c.in_ok-bytes.ensures c.in-Some.ensures c.if-out-n.false c.copy_bytes.ensures
