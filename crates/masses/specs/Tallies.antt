-- What a tally of the brackets before bracket k keeps to, and what bracket k adds to it.
use Rattle.std.specs.Prelude.{◌≡◌, List, ℕ, ◌+◌, ◌*◌, ◌≤◌, ℤ, nat_abs, ◌+ℤ◌}
use Rattle.scope.specs.Limits.{position_limit}
use Rattle.scope.specs.Line.{Bracket}
use Rattle.scope.specs.Tables.{Tables}
use Rattle.masses.specs.Reach.{Reach}
use Rattle.mass_laws.specs.Terms.{mass_limit}
use Rattle.mass_laws.specs.Weights.{weight, lack}

-- each bracket before adds its mass as often as it counts, which is once for each position at most, or as many that lack one
pub record TalliedBefore (k : ℕ) (sum : ℤ) (lacks : ℕ) : Type 0 where
  pub small : nat_abs sum ≤ k * (position_limit * mass_limit)
  pub few : lacks ≤ k * position_limit

pub record CanTally (bs : List ℕ) (ns : List ℤ) (k : ℕ) (sum : ℤ) (lacks : ℕ) : Type 0 where
  pub reach : Reach bs ns k
  pub before : TalliedBefore k sum lacks

pub record Tallied (t : Tables) (b : Bracket (Unit {0})) (sum : ℤ) (lacks : ℕ) (sum' : ℤ) (lacks' : ℕ) : Type 0 where
  pub sum_is : sum' ≡ sum +ℤ weight t b
  pub lacks_is : lacks' ≡ lacks + lack t b
