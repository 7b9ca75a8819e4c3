-- What a stated mass is; no modification lacks a mass exactly when each that counts has a stated one.
use Rattle.std.specs.Prelude.{◌≡◌, Bool, not, cond, ◌||◌, ◌↔◌, ℕ, ℤ, eqb}
use Rattle.std.proofs.Math.Path.{refl}
use Rattle.std.proofs.Math.Bool.{true, false}
use Rattle.std.proofs.Math.Option.{Option, none, some}
use mathlib.Core.List.{List, [], ◌∷◌, ◌++◌, map}
use Rattle.std.proofs.Common.{arith, eqb-true, eq-eqb}
use Rattle.basics.specs.Tests.{and_left, and_right}
use Rattle.scope.specs.Line.{Bracket, Line}
use Rattle.scope.specs.Lists.{given, there?, all, keep}
use Rattle.scope.specs.declared.answers.Mass.TheVariants.{Stated, Measured, None}
use Rattle.scope.specs.declared.grammar.Key.TheVariants.{Obs}
use Rattle.scope.specs.Modifications.{is_key, is_modification}
use Rattle.scope.specs.Masses.{first_mass, mass_of, stated, modifications, times, sumℕ, lacking}

-- the stated mass is told by the parts without `Obs`: whatever was measured is in no sum
pub stated_is : {P : Type 0} (k : Bracket P) → stated (mass_of k) ≡ first_mass (keep (λ p. not (is_key Obs p)) k.parts)
unfolding mass_of
stated_is k = by (first_mass (keep (λ p. not (is_key Obs p)) k.parts)) (first_mass (keep (is_key Obs) k.parts))
  where
    by : (o r : Option ℤ) → stated (given o Stated (given r Measured None)) ≡ o
    by (some m) r = refl
    by none (some m) = refl
    by none none = refl

lacks_none : (o : Option ℤ) (c : ℕ) → given o (λ m. 0) c ≡ 0 → (there? o || eqb c 0) ≡ true
lacks_none none c e = eq-eqb c 0 e
lacks_none (some m) c e = refl

has_one : (o : Option ℤ) (c : ℕ) → (there? o || eqb c 0) ≡ true → given o (λ m. 0) c ≡ 0
has_one none c e = eqb-true c 0 e
has_one (some m) c e = refl

module _ {P : Type 0} where
  abbrev has_mass : Line P → Bracket P → Bool
  has_mass t k = there? (stated (mass_of k)) || eqb (times t k) 0

  abbrev lack : Line P → Bracket P → ℕ
  lack t k = given (stated (mass_of k)) (λ m. 0) (times t k)

  -- a bracket more, and whether it is a modification
  more_stated : (t : Line P) (a : Bool) (k : Bracket P) (l : List (Bracket P)) → (sumℕ (map (lack t) l) ≡ 0 → all (has_mass t) l ≡ true)
      → sumℕ (map (lack t) (cond a (k ∷ []) [] ++ l)) ≡ 0 → all (has_mass t) (cond a (k ∷ []) [] ++ l) ≡ true
  unfolding sumℕ all
  more_stated t false k l known e = known e
  more_stated t true k l known e = rw (lacks_none (stated (mass_of k)) (times t k) (omega (arith, e))) (known (omega (arith, e)))

  more_lacking : (t : Line P) (a : Bool) (k : Bracket P) (l : List (Bracket P)) → (all (has_mass t) l ≡ true → sumℕ (map (lack t) l) ≡ 0)
      → all (has_mass t) (cond a (k ∷ []) [] ++ l) ≡ true → sumℕ (map (lack t) (cond a (k ∷ []) [] ++ l)) ≡ 0
  unfolding sumℕ all
  more_lacking t false k l known e = known e
  more_lacking t true k l known e = omega (arith, has_one (stated (mass_of k)) (times t k) (and_left (has_mass t k) (all (has_mass t) l) e), known (and_right (has_mass t k) (all (has_mass t) l) e))

  none_lacking : (t : Line P) (ks : List (Bracket P)) → sumℕ (map (lack t) (keep is_modification ks)) ≡ 0 → all (has_mass t) (keep is_modification ks) ≡ true
  unfolding keep all
  none_lacking t [] e = refl
  none_lacking t (k ∷ ks) e = more_stated t (is_modification k) k (keep is_modification ks) (none_lacking t ks) e

  lacking_none : (t : Line P) (ks : List (Bracket P)) → all (has_mass t) (keep is_modification ks) ≡ true → sumℕ (map (lack t) (keep is_modification ks)) ≡ 0
  unfolding keep sumℕ
  lacking_none t [] e = refl
  lacking_none t (k ∷ ks) e = more_lacking t (is_modification k) k (keep is_modification ks) (lacking_none t ks) e

  pub all_stated : (t : Line P) → lacking t ≡ 0 ↔ all (λ k. there? (stated (mass_of k)) || eqb (times t k) 0) (modifications t) ≡ true
  unfolding lacking
  all_stated t = (none_lacking t t.brackets, lacking_none t t.brackets)
