-- `chains::Area::find_first` meets its contract: the first one, and the next behind it. Assumes nothing.
use Rattle.chains.specs.Finding.{found_none, found_one, found_several}
use Rattle.chains.proofs.borrowed.Area.find_first.Goals as goal

pub returns-in_default : goal.returns-in_default
returns-in_default c = found_none c.args.self.now.whole _ c.in_default.ensures

pub returns-in-None : goal.returns-in-None
returns-in-None c = found_one c.args.self.now.whole _ c.in-Some.ensures c.in-None.ensures

pub returns-in-Some-first_from : goal.returns-in-Some-first_from
returns-in-Some-first_from c = found_several c.args.self.now.whole _ c.in-Some.ensures c.in-Some-first_from.ensures
