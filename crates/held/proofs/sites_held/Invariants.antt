-- `held::sites_held` meets its contract. The loop: the places from j on are left. Assumes nothing.
use Rattle.held.proofs.SitesLaws.{HoldingSites}
use Rattle.held.proofs.sites_held.Given as goal

abbrev pub invariant-loop-j : goal.invariant-loop-j
invariant-loop-j l = HoldingSites l.line l.at l.n l.k l.bytes l.i l.j l.so
