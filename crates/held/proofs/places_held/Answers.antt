-- `held::places_held` meets its contract: their number, their sites, zeros behind them. Assumes nothing.
use borrow.Author.Rules.{rules}
use native.Mathlib.Omega.{arith}
use Rattle.held.proofs.SitesLaws.{row_told}
use Rattle.held.proofs.places_held.Goals as goal

pub returns : goal.returns
returns c = row_told (search rules) c.places.ensures.0 (omega arith) c.sites_held.ensures c.zero_bytes.ensures
