-- The bracket at a place of the tables, and each answer about its own mass.
use mathlib.Core.Path.{◌≡◌, refl, sym, ap, ◌∙◌}
use mathlib.Core.Option.{none, some}
use mathlib.Core.List.{List}
use Prim.Native.Nat.{ℕ, zero, suc, ◌+◌, ◌<◌, ◌≤◌}
use native.Mathlib.Nat.{add-zero, not-suc-le-zero, le_of_suc-le-suc}
use native.Mathlib.Omega.{arith}
use lib.IntN.{ℤ}
use Rattle.scope.specs.declared.answers.Mass.{Mass}
use Rattle.scope.specs.Lists.{given, tabled}
use Rattle.scope.specs.Layout.{bracket_in, tables_in, brackets_field}
use Rattle.scope.specs.Masses.{mass_of}
use Rattle.scope.specs.Answers.{good, refuses}
use Rattle.calls.specs.Single.{element_at, mass_at}

-- ---- the element at a place
pub element_tabled : {A : Type 0} (f : ℕ → A) (i n j : ℕ) → j < n → element_at (tabled f i n) j ≡ some (f (i + j))
unfolding element_at tabled
element_tabled f i zero j h = absurd (not-suc-le-zero h)
element_tabled f i (suc n) zero h = ap (λ k. some (f k)) (sym (add-zero i))
element_tabled f i (suc n) (suc j) h = element_tabled f (i + 1) n j (le_of_suc-le-suc h) ∙ ap (λ k. some (f k)) (omega arith)

pub no_element : {A : Type 0} (f : ℕ → A) (i n j : ℕ) → n ≤ j → element_at (tabled f i n) j ≡ none
unfolding element_at tabled
no_element f i zero j h = refl
no_element f i (suc n) zero h = absurd (not-suc-le-zero h)
no_element f i (suc n) (suc j) h = no_element f (i + 1) n j (le_of_suc-le-suc h)

module _ (bs : List ℕ) (ns : List ℤ) (i : ℕ) where
  pub bracket_at_lem : i < brackets_field bs → element_at (tables_in bs ns).brackets i ≡ some (bracket_in bs ns i)
  unfolding tables_in
  bracket_at_lem h = element_tabled (bracket_in bs ns) 0 (brackets_field bs) i h ∙ ap (λ k. some (bracket_in bs ns k)) (omega arith)

  pub no_bracket_lem : brackets_field bs ≤ i → element_at (tables_in bs ns).brackets i ≡ none
  unfolding tables_in
  no_bracket_lem h = no_element (bracket_in bs ns) 0 (brackets_field bs) i h

  -- ---- the answers
  pub mass_17 : {b : ℕ} → b ≡ brackets_field bs → b ≤ i → refuses 17 0 ≡ mass_at (tables_in bs ns) i
  mass_17 e h = sym (ap (λ k. given k (λ k. good (mass_of k)) (refuses 17 0)) (no_bracket_lem (omega arith)))

  pub mass_is : {b : ℕ} {r : Mass} → b ≡ brackets_field bs → i < b → r ≡ mass_of (bracket_in bs ns i) → good r ≡ mass_at (tables_in bs ns) i
  mass_is e h s = ap good s ∙ sym (ap (λ k. given k (λ k. good (mass_of k)) (refuses 17 0)) (bracket_at_lem (omega arith)))
