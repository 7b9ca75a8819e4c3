-- `masses::bracket_mass` meets its contract: before each part none states a mass, and the first that has a measured one is kept. Assumes nothing.
use Rattle.masses.proofs.PartLaws.{Sought}
use Rattle.masses.proofs.bracket_mass.Given as goal

abbrev pub invariant-loop-j : goal.invariant-loop-j
invariant-loop-j l = Sought l.bytes l.numbers l.k l.n l.measured l.j
