-- `chains::Area::of` meets its contract: the area is whole where the test says so. Assumes nothing.
use Rattle.std.proofs.Common.{sym, ◌∙◌}
use Rattle.chains.specs.Counted.{whole_area}
use Rattle.chains.proofs.borrowed.Area.of.Goals as goal

pub invariant_of-result : goal.invariant_of-result
invariant_of-result c = record { whole = whole_area c.args.bytes.now (sym c.is_whole.ensures ∙ c.if-is_whole.true) }
