-- The leading digit, then those behind it. Assumes nothing.
use Rattle.figures.proofs.Storing.{puts_lead}
use Rattle.figures.proofs.store_three.Goals as goal

pub returns : goal.returns
returns c = puts_lead 2 c.args.n c.requires.0 c.digit.ensures c.store_two.ensures
