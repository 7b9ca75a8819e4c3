-- What the calls promise of measured masses: a total is answered exactly where no mass is lacking, and none is where each modification that counts is answered a
-- stated one; and other measured masses change neither the total nor how many are lacking.
use Rattle.std.specs.Prelude.{◌≡◌, refl, ◌↔◌, Bool, true, false, cond, ◌||◌, eqb, ℤ, Result, Ok}
use Rattle.std.proofs.Common.{sym, ap₂, ◌∙◌, arith, eqb-true, eq-eqb, ne_eqb}
use Rattle.std.proofs.Math.Path.{ap}
use Rattle.std.proofs.Math.Logic.{inl, inr}
use Rattle.std.proofs.lemmas.Bool.{false≢true, eqb-false}
use Rattle.std.proofs.Math.Option.{some}
use mathlib.Core.List.{List, [], ◌∷◌}
use Prim.Native.Nat.{ℕ, zero, suc}
use Rattle.scope.specs.declared.answers.Mass.{Mass}
use Rattle.scope.specs.declared.answers.Mass.TheVariants.{Stated, Measured, None}
use Rattle.scope.specs.declared.answers.Shown.{Shown}
use Rattle.scope.specs.Line.{Number, Bracket}
use Rattle.scope.specs.Lists.{given, there?, all}
use Rattle.scope.specs.Modifications.{is_modification}
use Rattle.scope.specs.Tables.{Tables}
use Rattle.scope.specs.Layout.{tables_in}
use Rattle.scope.specs.Masses.{mass_of, stated, modifications, times, total, lacking, daltons}
use Rattle.scope.specs.Answers.{good, refuses, too_short, are_tables, says, a_mass, lack, says_shown}
use Rattle.basics.specs.Each.{In}
use Rattle.basics.specs.Members.{in_keep, keep_in, all_in, in_all}
use Rattle.basics.specs.Said.{same_good}
use Rattle.laws.specs.Demands.{remeasured}
use Rattle.laws.proofs.Proved.{demands}
use Rattle.calls.specs.Single.{element_at, mass_at}
use Rattle.calls.specs.Says.{TotalSays, BracketMassSays, ShownSays}
use Rattle.promises.specs.Promises.{Counting, Measuring}
use Rattle.promises.proofs.Weights.{AreasTaken, says_itself, total_said, total_so, shown_said}
use Rattle.scope.specs.declared.refusals.Refusal.{Refusal}

-- ---- the elements of a list by their places, and a test of all of them
module _ {A : Type 0} where
  in_element : (l : List A) (i : ℕ) (x : A) → element_at l i ≡ some x → In x l
  unfolding element_at
  in_element [] i x e = absurd (false≢true (ap there? e))
  in_element (y ∷ l) zero x e = inl (sym (ap (λ o. given o (λ z. z) x) e))
  in_element (y ∷ l) (suc i) x e = inr (in_element l i x e)

  element_in : (l : List A) (x : A) → In x l → (i : ℕ) × (element_at l i ≡ some x)
  unfolding element_at
  element_in [] x h = absurd h
  element_in (y ∷ l) x (inl e) = (0, ap some (sym e))
  element_in (y ∷ l) x (inr h) = let z = element_in l x h in (suc z.0, z.1)

-- ---- a stated mass
is_stated_lem : (m : Mass) → there? (stated m) ≡ true → (x : ℤ) × (m ≡ Stated x)
is_stated_lem (Stated x) e = (x, refl)
is_stated_lem (Measured x) e = absurd (false≢true e)
is_stated_lem None e = absurd (false≢true e)

or_first : (a b : Bool) → b ≡ false → (a || b) ≡ true → a ≡ true
or_first true b q e = refl
or_first false b q e = sym q ∙ e

module _ (bs : List ℕ) (ns : List ℤ) (h : AreasTaken bs ns) where
  abbrev t : Tables
  t = tables_in bs ns

  -- the mass of a bracket is stated, or it counts nowhere
  abbrev fine : Bracket (Unit {0}) → Bool
  fine k = there? (stated (mass_of k)) || eqb (times t k) 0

  mass_said : (i : ℕ) (k : Bracket (Unit {0})) → element_at t.brackets i ≡ some k → (r : Result Mass Refusal) → BracketMassSays bs ns i r ↔ (says r ≡ good (mass_of k))
  mass_said i k e r =
      let said = says_itself h (λ t. mass_at t i) ∙ ap (λ o. given o (λ k. good (mass_of k)) (refuses 17 0)) e in
      ((λ w. w ∙ said), (λ w. w ∙ sym said))

  each_stated : all fine (modifications t) ≡ true → (i : ℕ) → Counting t i → (r : Result Mass Refusal) → BracketMassSays bs ns i r → (m : ℤ) × (says r ≡ good (Stated m))
  each_stated a i c r w =
      let k = c.bracket in
      let some-time : eqb (times t k) 0 ≡ false = ne_eqb (times t k) 0 (λ z. omega (arith, c.counted, z)) in
      let is-fine = all_in fine (modifications t) a k (keep_in is_modification k t.brackets (in_element t.brackets i k c.at) c.modification) in
      let s = is_stated_lem (mass_of k) (or_first (there? (stated (mass_of k))) (eqb (times t k) 0) some-time is-fine) in
      (s.0, (mass_said i k c.at r).0 w ∙ ap good s.1)

  none_lacking : ((i : ℕ) → Counting t i → (r : Result Mass Refusal) → BracketMassSays bs ns i r → (m : ℤ) × (says r ≡ good (Stated m))) → all fine (modifications t) ≡ true
  none_lacking g = in_all fine (modifications t) (λ k i. let b = in_keep is_modification k t.brackets i in by k (element_in t.brackets k b.0) b.1 (eqb (times t k) 0) refl)
    where
      by : (k : Bracket (Unit {0})) → (i : ℕ) × (element_at t.brackets i ≡ some k) → is_modification k ≡ true → (b : Bool) → eqb (times t k) 0 ≡ b
          → (there? (stated (mass_of k)) || b) ≡ true
      by k at is true e = or_true (there? (stated (mass_of k)))
        where
          or_true : (a : Bool) → (a || true) ≡ true
          or_true true = refl
          or_true false = refl
      by k at is false e =
          let some-time = eqb-false (times t k) 0 e in
          let c : Counting t at.0 = record { bracket = k; at = at.1; modification = is; counted = omega (arith, some-time) } in
          let s = g at.0 c (Ok (mass_of k)) ((mass_said at.0 k at.1 (Ok (mass_of k))).1 refl) in
          ap (λ m. there? (stated m) || false) (same_good s.1)

  pub stated_only : (q : Result ℤ Refusal) → TotalSays bs ns q
      → ((m : ℤ) × (says q ≡ good m)) ↔ ((i : ℕ) → Counting t i → (r : Result Mass Refusal) → BracketMassSays bs ns i r → (m : ℤ) × (says r ≡ good (Stated m)))
  stated_only q w =
      let all_stated = (demands.demand_3_in bs ns h.taken).all_stated in (
        (λ z. each_stated (all_stated.0 (eqb-true (lacking t) 0 (total_so bs ns h z.0 q w z.1).0))),
        (λ g. (total t, total_said bs ns h q w ∙ ap (λ b. cond b (good (total t)) (refuses 16 (lacking t))) (eq-eqb (lacking t) 0 (all_stated.1 (none_lacking g))))),
      )

  -- ---- other masses behind `Obs`
  module _ (f : Number (Unit {0}) → Number (Unit {0})) (cs : List ℕ) (ms : List ℤ) (long : too_short cs ms ≡ false) (taken : are_tables cs ms ≡ true)
      (other : tables_in cs ms ≡ remeasured f t) where
    there : AreasTaken cs ms
    there = record { long_enough = long; taken = taken }

    same_total : total (tables_in cs ms) ≡ total t
    same_total = ap total other ∙ ((demands.demand_3_in bs ns h.taken).stay_out f).0

    same_lacking : lacking (tables_in cs ms) ≡ lacking t
    same_lacking = ap lacking other ∙ ((demands.demand_3_in bs ns h.taken).stay_out f).1

    total_alike : (q r : Result ℤ Refusal) → TotalSays bs ns q → TotalSays cs ms r → says r ≡ says q
    total_alike q r w v = total_said cs ms there r v ∙ ap₂ (λ n x. cond (eqb n 0) (good x) (refuses 16 n)) same_lacking same_total ∙ sym (total_said bs ns h q w)

    shown_alike : (q r : Shown) → ShownSays bs ns q → ShownSays cs ms r → says_shown r ≡ says_shown q
    shown_alike q r w v =
        shown_said cs ms there r v ∙ ap₂ (λ n x. good (cond (eqb n 0) (a_mass (daltons x)) (lack n))) same_lacking same_total ∙ sym (shown_said bs ns h q w)

  pub measuring : Measuring bs ns
  measuring =
      record { stated_only = stated_only; stay_out = λ f cs ms long taken other. (total_alike f cs ms long taken other, shown_alike f cs ms long taken other) }
