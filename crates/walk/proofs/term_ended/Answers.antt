-- The brackets at the front settled as N-terminal.
use Rattle.walk.proofs.Settling.{settled_upto}
use Rattle.walk.proofs.term_ended.Goals as goal

pub returns : goal.returns
returns c = (c.settled_in.ensures, settled_upto c.min.ensures c.settle.ensures)
