-- In areas that keep to the bounds of tables every mass is small: the first mass of some parts is the mass of one of them, and none is larger than the number
-- that stands there.
use Rattle.std.specs.Prelude.{◌≡◌, refl, Bool, true, false, cond, List, [], ◌∷◌, ◌++◌, ℕ, zero, suc, ◌+◌, ◌-◌, ◌*◌, ◌/◌, ◌^◌, ◌≤◌, ◌<◌, eqb, ℤ, pos, nat_abs}
use Rattle.std.proofs.Common.{sym, ap, ◌∙◌, div-mul-le_self, arith}
use Rattle.std.proofs.Math.Path.{subst}
use Rattle.std.proofs.Math.Bool.{not}
use Rattle.std.proofs.Math.Option.{Option, none, some}
use Rattle.scope.specs.declared.grammar.Key.TheVariants.{Obs}
use Rattle.scope.specs.Limits.{decimal_limit}
use Rattle.scope.specs.Line.{Number, mass, text, reference, composition, Part}
use Rattle.scope.specs.Lists.{given, keep, tabled}
use Rattle.scope.specs.Modifications.{is_key}
use Rattle.scope.specs.Tables.{millionths}
use Rattle.scope.specs.Layout.{mass_code, text_code, composition_code, is_negative, number_in, part_in, bracket_in, brackets_field, decimals_field, mass_field, parts_field, value_field}
use Rattle.scope.specs.Masses.{value_mass, first_mass, mass_of, stated, mass_or0}
use Rattle.areas.specs.Bounds.{Small, Bounds}
use Rattle.basics.specs.Wholes.{abs_signed}
use Rattle.mass_laws.specs.Terms.{mass_limit}
use Rattle.mass_laws.proofs.Stated.{stated_is}

-- ---- a number to so many decimals
abs_millionths : (m : ℤ) (d : ℕ) → nat_abs (millionths (number_in m d)) ≤ nat_abs m
abs_millionths m d =
    rw (abs_signed (is_negative m) (nat_abs m / 10 ^ (decimal_limit - d) * 10 ^ (decimal_limit - d))) (div-mul-le_self (nat_abs m) (10 ^ (decimal_limit - d)))

-- ---- the first mass
pub first_cons : (g : Part (Unit {0}) → Bool) (p : Part (Unit {0})) (ps : List (Part (Unit {0}))) → first_mass (keep g (p ∷ ps)) ≡ cond (g p) (given (value_mass p.value) some (first_mass (keep g ps))) (first_mass (keep g ps))
unfolding keep first_mass
first_cons g p ps = by (g p)
  where
    by : (t : Bool) → first_mass (cond t (p ∷ []) [] ++ keep g ps) ≡ cond t (given (value_mass p.value) some (first_mass (keep g ps))) (first_mass (keep g ps))
    by true = refl
    by false = refl

abbrev size : Option ℤ → ℕ
size o = given o nat_abs 0

small_given : (o r : Option ℤ) (b : ℕ) → size o < b → size r < b → size (given o some r) < b
small_given (some m) r b h k = h
small_given none r b h k = k

small_cond : (t : Bool) (o r : Option ℤ) (b : ℕ) → size o < b → size r < b → size (cond t (given o some r) r) < b
small_cond true o r b h k = small_given o r b h k
small_cond false o r b h k = k

small_first : (g : Part (Unit {0}) → Bool) (f : ℕ → Part (Unit {0})) (b : ℕ) → 0 < b → (j n : ℕ) → ((i : ℕ) → i < j + n → size (value_mass (f i).value) < b) → size (first_mass (keep g (tabled f j n))) < b
unfolding tabled keep first_mass
small_first g f b p j zero h = p
small_first g f b p j (suc n) h =
    subst (λ o. size o < b) (sym (first_cons g (f j) (tabled f (j + 1) n)))
    (small_cond (g (f j)) (value_mass (f j).value) (first_mass (keep g (tabled f (j + 1) n))) b (h j (omega arith)) (small_first g f b p (j + 1) n (λ i q. h i (omega arith))))

small_value : (n : Number (Unit {0})) (x : List ℕ) (t u c : Bool) (b : ℕ) → nat_abs (millionths n) < b
    → size (value_mass (cond t (mass n) (cond u (text x) (cond c (composition x n) reference)))) < b
small_value n x true u c b h = h
small_value n x false true c b h = omega arith
small_value n x false false true b h = h
small_value n x false false false b h = omega arith

size_is : (o : Option ℤ) → size o ≡ nat_abs (given o (λ m. m) (pos 0))
size_is (some m) = refl
size_is none = refl

-- ---- in areas
module _ {bs : List ℕ} {ns : List ℤ} (b : Bounds bs ns) {k : ℕ} (h : k < brackets_field bs) where
  small_part : (i : ℕ) → i < parts_field bs k → size (value_mass (part_in bs ns k i).value) < mass_limit
  unfolding part_in
  small_part i q =
      small_value
      (number_in (mass_field ns k i) (decimals_field bs k i)) _
      (eqb (value_field bs k i) mass_code) (eqb (value_field bs k i) text_code) (eqb (value_field bs k i) composition_code) mass_limit
      (omega (arith, abs_millionths (mass_field ns k i) (decimals_field bs k i), ((b.bracket k h).part i q).small))

  abbrev first_of : (Part (Unit {0}) → Bool) → Option ℤ
  first_of g = first_mass (keep g (tabled (part_in bs ns k) 0 (parts_field bs k)))

  small_of : (g : Part (Unit {0}) → Bool) → size (first_of g) < mass_limit
  small_of g = small_first g (part_in bs ns k) mass_limit (omega arith) 0 (parts_field bs k) (λ i q. small_part i (omega arith))

  pub small_mass : Small (mass_or0 (bracket_in bs ns k))
  unfolding bracket_in
  small_mass =
      subst (λ n. n < mass_limit) (ap size (sym (stated_is (bracket_in bs ns k))) ∙ size_is (stated (mass_of (bracket_in bs ns k)))) (small_of (λ p. not (is_key Obs p)))
