-- `exchange::lowered` meets its contract: the least below where i stands now, if `seek` finds one, and else where it stands.
use native.Mathlib.Omega.{arith}
use Rattle.exchange.proofs.Least.{lowered_no}
use Rattle.placement_laws.specs.Standing.{place}
use Rattle.exchange.proofs.Laws.{from_small}
use Rattle.exchange.proofs.Search.lowered.Goals as goal

pub returns-in-None : goal.returns-in-None
returns-in-None c = lowered_no _ _ _ (place c.args.w.now.at) c.requires.full c.in-None.ensures

pub seek-requires : goal.seek-requires
seek-requires c =
    let l = from_small _ _ c.args.i (place c.args.w.now.at c.args.i) (c.requires.full.fits c.args.i c.requires.inside) in
    (c.requires, omega (arith, l))
