-- `store::store` meets its contract: what stands in front of the rows, then the brackets. Assumes nothing.
use Rattle.store.proofs.LineLaws.{front_fits, brackets_fit, filled}
use Rattle.store.proofs.store.Goals as goal

pub store_front-requires : goal.store_front-requires
store_front-requires c = front_fits c.requires

pub store_brackets-requires : goal.store_brackets-requires
store_brackets-requires c = brackets_fit c.requires c.store_front.ensures

pub returns : goal.returns
returns c = filled c.requires c.store_front.ensures c.store_brackets.ensures
