-- `calls::reached` meets its contract: 17 past the last bracket, else the positions are put.
use Rattle.calls.proofs.ReachLaws.{short_slice, no_reach, reach_17, reach_found}
use Rattle.calls.proofs.reached.Goals as goal

pub returns-then-brackets-k : goal.returns-then-brackets-k
returns-then-brackets-k c = reach_17 _ _ _ _ c.if-out-lt-POSITIONS.false c.in_ok-bytes.ensures c.brackets.ensures.0 c.if-brackets-k.true

pub returns : goal.returns
returns c = reach_found _ _ _ _ c.if-out-lt-POSITIONS.false c.in_ok-bytes.ensures c.brackets.ensures.0 c.if-brackets-k.false c.put_reached.ensures
