-- Laws of the parts of a bracket in the areas: which of them states its mass, and which was measured first. Assumes nothing.
use mathlib.Core.Path.{◌≡◌, refl, sym, ap, ◌∙◌, subst}
use mathlib.Core.Bool.{Bool, true, false, not, cond, ◌&&◌, ◌||◌}
use mathlib.Core.Option.{Option, none, some}
use mathlib.Core.Logic.{◌⊎◌, inl, inr}
use mathlib.Core.List.{List, ◌∷◌}
use Prim.Native.Nat.{ℕ, ◌+◌, ◌-◌, ◌≤◌, ◌<◌}
use native.Mathlib.Omega.{arith}
use borrow.Author.Tests.{eqb-true}
use lib.Dec.{eqb}
use Rattle.std.specs.Prelude.{Option as Maybe, Some as Just, None as Nothing, IfSome}
use Rattle.std.specs.Option.{option_or}
use lib.IntN.{ℤ, pos}
use Rattle.scope.specs.declared.grammar.Key.TheVariants.{Obs}
use Rattle.scope.specs.Limits.{part_limit}
use Rattle.scope.specs.Line.{Number, mass, text, reference, composition, Part, Bracket}
use Rattle.scope.specs.Keys.{key_code}
use Rattle.scope.specs.Lists.{given, keep, tabled}
use Rattle.scope.specs.Modifications.{is_key}
use Rattle.scope.specs.Tables.{millionths}
use Rattle.scope.specs.Layout.{mass_code, text_code, composition_code, number_in, part_in, bracket_in, decimals_field, key_field, mass_field, parts_field, value_field}
use Rattle.scope.specs.Masses.{value_mass, first_mass, mass_of, stated, mass_or0}
use Rattle.brackets.specs.Row.{Row, row}
use Rattle.basics.specs.Choice.{by_test}
use Rattle.basics.specs.Tabled.{tabled_at, tabled_end, tabled_all}
use Rattle.brackets.specs.Codes.{key_is}
use Rattle.scope.specs.declared.answers.Mass.{Mass}
use Rattle.scope.specs.declared.answers.Mass.TheVariants.{Stated, Measured, None}
use Rattle.masses.specs.Reach.{Reach, ReachPart}
use Rattle.masses.specs.Weights.{weighs}
use Rattle.mass_laws.proofs.Small.{first_cons}

-- ---- the first mass among the parts, behind `Obs` or not: part j's, if it has one and is such a part
abbrev behind : Bool → Bool → Bool
behind true t = t
behind false t = not t

module _ (bs : List ℕ) (ns : List ℤ) (k : ℕ) where
  abbrev first_of : Bool → List (Part (Unit {0})) → Option ℤ
  first_of obs ps = first_mass (keep (λ p. behind obs (is_key Obs p)) ps)

  abbrev mass_of_part : ℕ → ℤ
  mass_of_part j = millionths (number_in (mass_field ns k j) (decimals_field bs k j))

  abbrev measured : ℕ → Bool
  measured j = eqb (key_field bs k j) (key_code Obs)

  abbrev hit : Bool → ℕ → Bool
  hit obs j = weighs (value_field bs k j) && behind obs (measured j)

  by_tests : (n : Number (Unit {0})) (x : List ℕ) (t u s w : Bool) (r : Option ℤ)
      → cond w (given (value_mass (cond t (mass n) (cond u (text x) (cond s (composition x n) reference)))) some r) r ≡ cond ((t || (not u && s)) && w) (some (millionths n)) r
  by_tests n x true u s true r = refl
  by_tests n x true u s false r = refl
  by_tests n x false true s true r = refl
  by_tests n x false true s false r = refl
  by_tests n x false false true true r = refl
  by_tests n x false false true false r = refl
  by_tests n x false false false true r = refl
  by_tests n x false false false false r = refl

  -- a composition is no text
  no_text : (v : ℕ) → (not (eqb v text_code) && eqb v composition_code) ≡ eqb v composition_code
  no_text v = by_test (eqb v text_code) (λ e. let q : v ≡ text_code = eqb-true v text_code e in rw q) (λ e. rw e)

  by_value : (n : Number (Unit {0})) (x : List ℕ) (v : ℕ) (w : Bool) (r : Option ℤ)
      → cond w (given (value_mass (cond (eqb v mass_code) (mass n) (cond (eqb v text_code) (text x) (cond (eqb v composition_code) (composition x n) reference)))) some r) r
      ≡ cond (weighs v && w) (some (millionths n)) r
  by_value n x v w r =
      by_tests n x (eqb v mass_code) (eqb v text_code) (eqb v composition_code) w r
      ∙ ap (λ z. cond ((eqb v mass_code || z) && w) (some (millionths n)) r) (no_text v)

  at_part : (obs : Bool) (j : ℕ) (ps : List (Part (Unit {0}))) → first_of obs (part_in bs ns k j ∷ ps) ≡ cond (hit obs j) (some (mass_of_part j)) (first_of obs ps)
  unfolding part_in
  at_part obs j ps =
      first_cons (λ p. behind obs (is_key Obs p)) (part_in bs ns k j) ps
      ∙ by_value
      (number_in (mass_field ns k j) (decimals_field bs k j)) _
      (value_field bs k j) (behind obs (is_key Obs (part_in bs ns k j))) (first_of obs ps)
      ∙ ap (λ t. cond (weighs (value_field bs k j) && behind obs t) (some (mass_of_part j)) (first_of obs ps)) (key_is (key_field bs k j) (key_code Obs) (omega arith) (omega arith))

  -- the parts from j on
  abbrev rest : ℕ → ℕ → List (Part (Unit {0}))
  rest m j = tabled (part_in bs ns k) j (m - j)

  from : (obs : Bool) {m j : ℕ} → j < m → first_of obs (rest m j) ≡ cond (hit obs j) (some (mass_of_part j)) (first_of obs (rest m (j + 1)))
  from obs {m} {j} h = ap (first_of obs) (tabled_at (part_in bs ns k) j m h) ∙ at_part obs j (rest m (j + 1))

  abbrev own : List (Part (Unit {0}))
  own = (bracket_in bs ns k).parts

  -- part j is come to, and no part before it states a mass; the first that has a measured one is part i, if there is one
  -- the mass of the part that was measured first, if one was; else r
  abbrev measured_or : Maybe ℕ → Option ℤ → Option ℤ
  measured_or Nothing r = r
  measured_or (Just i) r = some (mass_of_part i)

  pub record Sought (m : ℕ) (i : Maybe ℕ) (j : ℕ) : Type 0 where
    pub inside : j ≤ m
    pub many : m ≡ parts_field bs k
    pub few : m ≤ part_limit
    pub place : IfSome i (λ x. x < m)
    pub unstated : first_of false own ≡ first_of false (rest m j)
    pub found : first_of true own ≡ measured_or i (first_of true (rest m j))

  pub sought_start : {m : ℕ} → m ≡ parts_field bs k → m ≤ part_limit → Sought m Nothing 0
  unfolding bracket_in
  sought_start {m} e few =
      record {
        inside = omega arith;
        many = e;
        few = few;
        place = tt;
        unstated = all_of false;
        found = all_of true;
      }
    where
      all_of : (obs : Bool) → first_of obs own ≡ first_of obs (rest m 0)
      all_of obs = ap (λ n. first_of obs (tabled (part_in bs ns k) 0 n)) (sym e) ∙ ap (first_of obs) (tabled_all (part_in bs ns k) m)

  module _ {m j : ℕ} {i : Maybe ℕ} (s : Sought m i j) (h : j < m) where
    -- a part without a mass
    pub sought_none : {i' : Maybe ℕ} → weighs (value_field bs k j) ≡ false → i' ≡ i → Sought m i' (j + 1)
    sought_none w e =
        subst (λ x. Sought m x (j + 1)) (sym e)
        (record {
          inside = omega arith;
          many = s.many;
          few = s.few;
          place = s.place;
          unstated = s.unstated ∙ pass false;
          found = s.found ∙ ap (measured_or i) (pass true);
        })
      where
        pass : (obs : Bool) → first_of obs (rest m j) ≡ first_of obs (rest m (j + 1))
        pass obs = from obs h ∙ ap (λ t. cond (t && behind obs (measured j)) (some (mass_of_part j)) (first_of obs (rest m (j + 1)))) w

    module _ (w : weighs (value_field bs k j) ≡ true) where
      pub sought_stated : measured j ≡ false → Stated (mass_of_part j) ≡ mass_of (bracket_in bs ns k)
      unfolding mass_of
      sought_stated o =
          let first : first_of false own ≡ some (mass_of_part j) = s.unstated ∙ from false h ∙ rw (w, o) in
          sym (ap (λ x. given x Stated (given (first_of true own) Measured None)) first)

      module _ (o : measured j ≡ true) where
        unstated_still : first_of false own ≡ first_of false (rest m (j + 1))
        unstated_still = s.unstated ∙ from false h ∙ rw (w, o)

        -- the first measured mass, or a further one
        pub sought_more : {i' : Maybe ℕ} → i' ≡ option_or i (Just j) → Sought m i' (j + 1)
        sought_more e = subst (λ x. Sought m x (j + 1)) (sym e) (by i s.place s.found)
          where
            by : (x : Maybe ℕ) → IfSome x (λ y. y < m) → first_of true own ≡ measured_or x (first_of true (rest m j)) → Sought m (option_or x (Just j)) (j + 1)
            by Nothing p f =
                record {
                  inside = omega arith;
                  many = s.many;
                  few = s.few;
                  place = h;
                  unstated = unstated_still;
                  found = f ∙ from true h ∙ rw (w, o);
                }
            by (Just y) p f = record { inside = omega arith; many = s.many; few = s.few; place = p; unstated = unstated_still; found = f }

  -- a part that was measured is one of them
  pub sought_part : {m j x : ℕ} {i : Maybe ℕ} → Sought m i j → i ≡ Just x → x < m
  sought_part {m} s q = subst (λ y. IfSome y (λ z. z < m)) q s.place

  -- past the last part
  module _ {m j : ℕ} {i : Maybe ℕ} (s : Sought m i j) (h : m ≤ j) where
    none_from : (obs : Bool) → first_of obs (rest m j) ≡ none
    unfolding keep first_mass
    none_from obs = ap (first_of obs) (tabled_end (part_in bs ns k) j m h)

    ended : mass_of (bracket_in bs ns k) ≡ given (measured_or i none) Measured None
    unfolding mass_of
    ended =
        ap (λ x. given x Stated (given (first_of true own) Measured None)) (s.unstated ∙ none_from false)
        ∙ ap (λ x. given x Measured None) (s.found ∙ ap (measured_or i) (none_from true))

    pub sought_measured : {x : ℕ} → i ≡ Just x → Measured (mass_of_part x) ≡ mass_of (bracket_in bs ns k)
    sought_measured {x} q = sym (ended ∙ ap (λ y. given (measured_or y none) Measured None) q)

    pub sought_nothing : i ≡ Nothing → None ≡ mass_of (bracket_in bs ns k)
    sought_nothing q = sym (ended ∙ ap (λ y. given (measured_or y none) Measured None) q)

-- ---- what a mass adds to a sum, by its cases: a measured mass and none are not stated
unstated : (m : Mass) → ((x : ℤ) × (m ≡ Measured x)) ⊎ (m ≡ None) → stated m ≡ none
unstated m (inl e) = ap stated e.1
unstated m (inr e) = ap stated e

module _ (b : Bracket (Unit {0})) {r : Mass} (e : r ≡ mass_of b) where
  pub is_mass : {m : ℤ} → r ≡ Stated m → m ≡ mass_or0 b
  is_mass q = ap (λ x. given (stated x) (λ z. z) (pos 0)) (sym q ∙ e)

  pub is_unstated : ((x : ℤ) × (r ≡ Measured x)) ⊎ (r ≡ None) → stated (mass_of b) ≡ none
  is_unstated o = ap stated (sym e) ∙ unstated r o

-- ---- what the bounds give where a bracket or a part of it is read
module _ {bs : List ℕ} {ns : List ℤ} {k : ℕ} where
  pub reach_row : Reach bs ns k → Row bs k
  reach_row r = row r.bounds k r.inside

  pub reach_next : {m j : ℕ} → Reach bs ns k → m ≡ parts_field bs k → j < m → ReachPart bs ns k j
  reach_next r e h = record { reach = r; part = rw (← e) h }
