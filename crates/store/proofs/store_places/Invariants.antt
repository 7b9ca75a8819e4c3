-- `store::store_places` meets its contract: the site of one place after another. Assumes nothing.
use Rattle.store.proofs.PlacesLaws.{StoringPlaces}
use Rattle.store.proofs.store_places.Given as goal

abbrev pub invariant-loop-j : goal.invariant-loop-j
invariant-loop-j l = StoringPlaces l.line l.at l.n l.k l.initial.bytes l.i l.j l.bytes
