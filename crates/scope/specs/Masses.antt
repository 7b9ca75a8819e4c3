-- Masses: a bracket's, the total, the ledger of a placement, and the display.
use Rattle.std.specs.Prelude.{ℕ, ◌+◌, ◌^◌, not, cond, List, [], ◌∷◌, map, eqb, ℤ, pos, ◌+ℤ◌, ◌*ℤ◌, length, Float}
use Rattle.std.proofs.Math.Option.{Option, none, some}
use Rattle.std.specs.Float.{binary64}
use Rattle.std.specs.Float.Ieee.{div, of_int}
use Rattle.scope.specs.declared.answers.Mass.{Mass}
use Rattle.scope.specs.declared.answers.Mass.TheVariants.{Stated, Measured, None}
use Rattle.scope.specs.declared.grammar.Key.TheVariants.{Obs}
use Rattle.scope.specs.Kinds.{is_labile, is_declared}
use Rattle.scope.specs.Limits.{position_limit, decimal_limit}
use Rattle.scope.specs.Line.{Value, mass, text, reference, composition, Part, Bracket, Line}
use Rattle.scope.specs.Lists.{given, keep, tabled, member}
use Rattle.scope.specs.Modifications.{is_key, is_modification}
use Rattle.scope.specs.Tables.{millionths}
use Rattle.scope.specs.Positions.{placed_on, floaters}

-- ---- "A bracket's mass is its first mass without `Obs`, else its first `Obs` mass, else none. Parts are synonyms and never added up."
-- "A composition enters demand 3 as a mass without `Obs`" (02, L1)
abbrev pub value_mass : {P : Type 0} → Value P → Option ℤ
value_mass (mass n) = some (millionths n)
value_mass (text t) = none
value_mass reference = none
value_mass (composition t n) = some (millionths n)

unfoldable pub first_mass : {P : Type 0} → List (Part P) → Option ℤ
first_mass [] = none
first_mass (p ∷ ps) = given (value_mass p.value) some (first_mass ps)

-- "A bracket's mass now answers stated, only measured, or none." (02, L6)
unfoldable pub mass_of : {P : Type 0} → Bracket P → Mass
mass_of k = given (first_mass (keep (λ p. not (is_key Obs p)) k.parts)) Stated (given (first_mass (keep (is_key Obs) k.parts)) Measured None)

-- "Only stated ones enter total, ledger, display ..; the others count as lacking." (02, L6)
abbrev pub stated : Mass → Option ℤ
stated (Stated m) = some m
stated (Measured m) = none
stated None = none

-- ---- "The total is the sum over all modifications, counts multiplied, labile included, labels once."
unfoldable pub sum : List ℤ → ℤ
sum [] = pos 0
sum (m ∷ ms) = m +ℤ sum ms

abbrev pub modifications : {P : Type 0} → Line P → List (Bracket P)
modifications t = keep is_modification t.brackets

-- how often a modification counts: "counts multiplied"; "one for each position reached" (02, L2)
abbrev pub times : {P : Type 0} → Line P → Bracket P → ℕ
times t k = cond (is_declared k.kind) (length (placed_on t k)) k.count

abbrev pub mass_or0 : {P : Type 0} → Bracket P → ℤ
mass_or0 k = given (stated (mass_of k)) (λ m. m) (pos 0)

unfoldable pub total : {P : Type 0} → Line P → ℤ
total t = sum (map (λ k. pos (times t k) *ℤ mass_or0 k) (modifications t))

-- 16 "how many have none, each copy counted"
unfoldable pub sumℕ : List ℕ → ℕ
sumℕ [] = 0
sumℕ (n ∷ ns) = n + sumℕ ns

unfoldable pub lacking : {P : Type 0} → Line P → ℕ
lacking t = sumℕ (map (λ k. given (stated (mass_of k)) (λ m. 0) (times t k)) (modifications t))

-- ---- "The ledger of a placement has one entry for each of the 256 positions ..; each holds the masses of the modifications placed there and of
-- the floating copy put there, nothing else"
unfoldable pub placed_at : {P : Type 0} → Line P → ℕ → ℤ
placed_at t x = sum (map mass_or0 (keep (λ k. member x (placed_on t k)) (modifications t)))

unfoldable pub put_at : {P : Type 0} → ℕ → List (Bracket P) → List ℕ → ℤ
put_at x [] p = pos 0
put_at x (k ∷ ks) [] = pos 0
put_at x (k ∷ ks) (y ∷ p) = cond (eqb x y) (mass_or0 k) (pos 0) +ℤ put_at x ks p

unfoldable pub ledger : {P : Type 0} → Line P → List ℕ → List ℤ
ledger t p = tabled (λ x. placed_at t x +ℤ put_at x (floaters t) p) 0 position_limit

-- the labile ones, which no ledger books
unfoldable pub labile_mass : {P : Type 0} → Line P → ℤ
labile_mass t = sum (map mass_or0 (keep (λ k. is_labile k.kind) (modifications t)))

-- ---- "the whole number becomes a double with nothing lost and is divided once by 1,000,000"
abbrev pub daltons : ℤ → Float
daltons m = div binary64 (of_int binary64 m) (of_int binary64 (pos (10 ^ decimal_limit)))
