-- What one bracket adds to the total, to the count of those that lack a mass, and to the entries of the ledger.
use Rattle.std.specs.Prelude.{◌≡◌, refl, Bool, true, false, cond, map, ℕ, ◌<◌, ℤ, pos, ◌*ℤ◌, length}
use Rattle.std.proofs.Common.{ap, ◌∙◌}
use Rattle.scope.specs.Line.{Bracket, Line}
use Rattle.scope.specs.Lists.{given, tabled, member}
use Rattle.scope.specs.Modifications.{is_modification}
use Rattle.scope.specs.Positions.{placed_on}
use Rattle.scope.specs.Masses.{mass_of, stated, mass_or0, modifications, times, sum, sumℕ, total, lacking, placed_at}
use Rattle.basics.specs.Each.{Each}
use Rattle.mass_laws.specs.Sums.{sum_zero, sum_members, sum_keep, sumℕ_keep}
use Rattle.mass_laws.specs.Placed.{placed_distinct}

-- what a bracket adds to the total: "counts multiplied"
unfoldable pub weight : {P : Type 0} → Line P → Bracket P → ℤ
weight t k = cond (is_modification k) (pos (times t k) *ℤ mass_or0 k) (pos 0)

pub total_is : {P : Type 0} (t : Line P) → total t ≡ sum (map (weight t) t.brackets)
unfolding total weight
total_is t = sum_keep is_modification (λ k. pos (times t k) *ℤ mass_or0 k) t.brackets

-- what it adds to the count of those without a mass: "each copy counted"
unfoldable pub lack : {P : Type 0} → Line P → Bracket P → ℕ
lack t k = cond (is_modification k) (given (stated (mass_of k)) (λ m. 0) (times t k)) 0

pub lacking_is : {P : Type 0} (t : Line P) → lacking t ≡ sumℕ (map (lack t) t.brackets)
unfolding lacking lack
lacking_is t = sumℕ_keep is_modification (λ k. given (stated (mass_of k)) (λ m. 0) (times t k)) t.brackets

-- what it adds to the entry of position x
unfoldable pub booked_at : {P : Type 0} → Line P → ℕ → Bracket P → ℤ
booked_at t x k = cond (is_modification k) (cond (member x (placed_on t k)) (mass_or0 k) (pos 0)) (pos 0)

pub placed_is : {P : Type 0} (t : Line P) (x : ℕ) → placed_at t x ≡ sum (map (booked_at t x) t.brackets)
unfolding placed_at booked_at
placed_is t x =
    sum_keep (λ k. member x (placed_on t k)) mass_or0 (modifications t)
    ∙ sum_keep is_modification (λ k. cond (member x (placed_on t k)) (mass_or0 k) (pos 0)) t.brackets

-- nothing where it is not placed
pub not_booked : {P : Type 0} (t : Line P) (x : ℕ) (k : Bracket P) → member x (placed_on t k) ≡ false → booked_at t x k ≡ pos 0
unfolding booked_at
not_booked t x k e = ap (λ u. cond (is_modification k) (cond u (mass_or0 k) (pos 0)) (pos 0)) e ∙ by (is_modification k)
  where
    by : (a : Bool) → cond a (pos 0) (pos 0) ≡ pos 0
    by true = refl
    by false = refl

-- its mass, as often as it is placed
unfoldable pub placed_mass : {P : Type 0} → Line P → Bracket P → ℤ
placed_mass t k = cond (is_modification k) (pos (length (placed_on t k)) *ℤ mass_or0 k) (pos 0)

-- so much it adds to all entries
pub sum_booked : {P : Type 0} (t : Line P) (k : Bracket P) (n : ℕ) → Each (λ x. x < n) (placed_on t k) → sum (tabled (λ x. booked_at t x k) 0 n) ≡ placed_mass t k
unfolding booked_at placed_mass
sum_booked t k n h = by (is_modification k)
  where
    by : (a : Bool) → sum (tabled (λ x. cond a (cond (member x (placed_on t k)) (mass_or0 k) (pos 0)) (pos 0)) 0 n) ≡ cond a (pos (length (placed_on t k)) *ℤ mass_or0 k) (pos 0)
    by true = sum_members (mass_or0 k) n (placed_on t k) (placed_distinct t k) h
    by false = sum_zero (λ x. pos 0) 0 n (λ x q. refl)
