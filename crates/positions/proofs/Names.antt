-- Laws of the labels of brackets in the areas. Assumes nothing.
use mathlib.Core.Path.{◌≡◌, refl, sym, ap, ◌∙◌}
use mathlib.Core.Bool.{Bool, true, false, cond, ◌||◌, or-false, or_assoc}
use mathlib.Core.List.{List, [], ◌∷◌, ◌++◌}
use Prim.Native.Nat.{ℕ, zero, suc, ◌+◌, ◌≤◌}
use native.Mathlib.Omega.{arith}
use borrow.Author.Tests.{eq-eqb, ne_eqb}
use lib.IntN.{ℤ}
use lib.ListN.{length, drop, length-take, length-drop}
use Rattle.scope.specs.Lists.{same, flat, among, shared, tabled, part}
use Rattle.scope.specs.Line.{Part}
use Rattle.scope.specs.Modifications.{name_of, names_of, is_referring, defined_by, referred_by}
use Rattle.scope.specs.Layout.{part_in, bracket_in, label_field, parts_field}
use Rattle.positions.specs.Legible.{label_from}
use Rattle.positions.proofs.Any.{any_of}
use Rattle.basics.specs.Lists.{same_length, among_append, shared_nothing}

-- ---- texts of different lengths are not the same
length_part : (a m : ℕ) (l : List ℕ) → a + m ≤ length l → length (part a m l) ≡ m
length_part a m l h = omega (arith, length-take m (drop a l), length-drop a l)

pub same_not : (a m b n : ℕ) (l : List ℕ) → a + m ≤ length l → b + n ≤ length l → (m ≡ n → ⊥) → false ≡ same (part a m l) (part b n l)
same_not a m b n l h i ne =
    sym (same_length (part a m l) (part b n l) (λ e. ne (sym (length_part a m l h) ∙ e ∙ length_part b n l i)))

-- ---- the label of a part
pub name_none : (bs : List ℕ) (ns : List ℤ) (k j : ℕ) → label_field bs k j ≡ 0 → name_of (part_in bs ns k j) ≡ []
unfolding part_in
name_none bs ns k j e = rw (eq-eqb (label_field bs k j) 0 e)

pub name_some : (bs : List ℕ) (ns : List ℤ) (k j : ℕ) → (label_field bs k j ≡ 0 → ⊥) → name_of (part_in bs ns k j) ≡ part (label_from bs k j) (label_field bs k j) bs ∷ []
unfolding part_in
name_some bs ns k j ne = rw (ne_eqb (label_field bs k j) 0 ne)

module _ (bs x : List ℕ) (k j : ℕ) where
  pub among_none : {n : ℕ} → n ≡ label_field bs k j → n ≡ 0 → (ns : List ℤ) → false ≡ among x (name_of (part_in bs ns k j))
  unfolding among
  among_none e z ns = sym (ap (among x) (name_none bs ns k j (sym e ∙ z)))

  pub among_one : {n b : ℕ} {r : Bool} → n ≡ label_field bs k j → (n ≡ 0 → ⊥) → b ≡ label_from bs k j → r ≡ same x (part b n bs) → (ns : List ℤ) → r ≡ among x (name_of (part_in bs ns k j))
  unfolding among
  among_one {n} {b} e z f s ns =
      s ∙ ap (λ i. same x (part i n bs)) f ∙ ap (λ i. same x (part (label_from bs k j) i bs)) e
      ∙ sym (ap (among x) (name_some bs ns k j (λ i. z (e ∙ i))) ∙ or-false _)

module _ (bs : List ℕ) (k j r : ℕ) where
  pub shared_none : {n : ℕ} → n ≡ label_field bs k j → n ≡ 0 → (ns : List ℤ) → false ≡ shared (name_of (part_in bs ns k j)) (names_of (bracket_in bs ns r))
  unfolding shared
  shared_none e z ns = sym (ap (λ l. shared l (names_of (bracket_in bs ns r))) (name_none bs ns k j (sym e ∙ z)))

  pub shared_one : {n a : ℕ} {z : Bool} → n ≡ label_field bs k j → (n ≡ 0 → ⊥) → a ≡ label_from bs k j → ((ns : List ℤ) → z ≡ among (part a n bs) (names_of (bracket_in bs ns r))) → (ns : List ℤ) → z ≡ shared (name_of (part_in bs ns k j)) (names_of (bracket_in bs ns r))
  unfolding shared
  shared_one {n} {a} e z f s ns =
      s ns ∙ ap (λ i. among (part i n bs) (names_of (bracket_in bs ns r))) f ∙ ap (λ i. among (part (label_from bs k j) i bs) (names_of (bracket_in bs ns r))) e
      ∙ sym (ap (λ l. shared l (names_of (bracket_in bs ns r))) (name_some bs ns k j (λ i. z (e ∙ i))) ∙ or-false _)

-- ---- the labels of a bracket, part by part
shared_append : (l m o : List (List ℕ)) → shared (l ++ m) o ≡ shared l o || shared m o
unfolding shared
shared_append [] m o = refl
shared_append (y ∷ l) m o = ap (λ t. among y o || t) (shared_append l m o) ∙ sym (or_assoc (among y o) (shared l o) (shared m o))

among_tabled : (x : List ℕ) (p : ℕ → Part (Unit {0})) (i n : ℕ) → among x (flat name_of (tabled p i n)) ≡ any_of (λ j. among x (name_of (p j))) i n
unfolding among flat tabled any_of
among_tabled x p i zero = refl
among_tabled x p i (suc n) =
    among_append x (name_of (p i)) (flat name_of (tabled p (i + 1) n)) ∙ ap (λ t. among x (name_of (p i)) || t) (among_tabled x p (i + 1) n)

shared_tabled : (o : List (List ℕ)) (p : ℕ → Part (Unit {0})) (i n : ℕ) → shared (flat name_of (tabled p i n)) o ≡ any_of (λ j. shared (name_of (p j)) o) i n
unfolding shared flat tabled any_of
shared_tabled o p i zero = refl
shared_tabled o p i (suc n) =
    shared_append (name_of (p i)) (flat name_of (tabled p (i + 1) n)) o ∙ ap (λ t. shared (name_of (p i)) o || t) (shared_tabled o p (i + 1) n)

pub among_names : (bs : List ℕ) (ns : List ℤ) (x : List ℕ) (k m : ℕ) → m ≡ parts_field bs k → any_of (λ j. among x (name_of (part_in bs ns k j))) 0 m ≡ among x (names_of (bracket_in bs ns k))
unfolding bracket_in
among_names bs ns x k m e = ap (any_of (λ j. among x (name_of (part_in bs ns k j))) 0) e ∙ sym (among_tabled x (part_in bs ns k) 0 (parts_field bs k))

pub shared_names : (bs : List ℕ) (ns : List ℤ) (o : List (List ℕ)) (k m : ℕ) → m ≡ parts_field bs k → any_of (λ j. shared (name_of (part_in bs ns k j)) o) 0 m ≡ shared (names_of (bracket_in bs ns k)) o
unfolding bracket_in
shared_names bs ns o k m e = ap (any_of (λ j. shared (name_of (part_in bs ns k j)) o) 0) e ∙ sym (shared_tabled o (part_in bs ns k) 0 (parts_field bs k))

-- ---- references
module _ (bs : List ℕ) (k r : ℕ) where
  pub refers_not : {b : Bool} → ((ns : List ℤ) → b ≡ is_referring (bracket_in bs ns r)) → b ≡ false → (ns : List ℤ) → false ≡ shared (defined_by (bracket_in bs ns k)) (referred_by (bracket_in bs ns r))
  refers_not e f ns =
      sym
      (ap (λ t. shared (defined_by (bracket_in bs ns k)) (cond t (names_of (bracket_in bs ns r)) [])) (sym (e ns) ∙ f)
      ∙ shared_nothing (defined_by (bracket_in bs ns k)))

  pub refers_no_definition : {b : Bool} → ((ns : List ℤ) → b ≡ is_referring (bracket_in bs ns k)) → b ≡ true → (ns : List ℤ) → false ≡ shared (defined_by (bracket_in bs ns k)) (referred_by (bracket_in bs ns r))
  unfolding shared
  refers_no_definition e f ns = sym (ap (λ t. shared (cond t [] (names_of (bracket_in bs ns k))) (referred_by (bracket_in bs ns r))) (sym (e ns) ∙ f))

  pub refers : {b d z : Bool} → ((ns : List ℤ) → b ≡ is_referring (bracket_in bs ns r)) → b ≡ true → ((ns : List ℤ) → d ≡ is_referring (bracket_in bs ns k)) → d ≡ false
      → ((ns : List ℤ) → z ≡ shared (names_of (bracket_in bs ns k)) (names_of (bracket_in bs ns r))) → (ns : List ℤ) → z ≡ shared (defined_by (bracket_in bs ns k)) (referred_by (bracket_in bs ns r))
  refers e f g h s ns =
      s ns
      ∙ sym
      (ap (λ t. shared (defined_by (bracket_in bs ns k)) (cond t (names_of (bracket_in bs ns r)) [])) (sym (e ns) ∙ f)
      ∙ ap (λ t. shared (cond t [] (names_of (bracket_in bs ns k))) (names_of (bracket_in bs ns r))) (sym (g ns) ∙ h))
