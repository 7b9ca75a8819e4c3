-- Laws of one bracket's parts in the areas: what each loop over them has found, at its start, at each turn and at its end. Assumes nothing.
use mathlib.Core.Path.{◌≡◌, refl, sym, ap, ◌∙◌}
use mathlib.Core.Bool.{Bool, true, false, not, cond, ◌&&◌}
use mathlib.Core.List.{List, ◌++◌}
use Prim.Native.Nat.{ℕ, zero, suc, ◌+◌, ◌-◌, ◌≤◌, ◌<◌}
use native.Mathlib.Omega.{arith}
use borrow.Author.Tests.{eq-eqb, ne_eqb}
use lib.Dec.{eqb}
use lib.IntN.{ℤ}
use Rattle.scope.specs.declared.grammar.Key.TheVariants.{Info}
use Rattle.scope.specs.declared.grammar.Kind.{Kind}
use Rattle.scope.specs.Limits.{part_limit}
use Rattle.scope.specs.Line.{Number, Bracket, mass, text, reference, composition}
use Rattle.scope.specs.Content.{is_reference}
use Rattle.scope.specs.Lists.{none?, all, flat, tabled}
use Rattle.scope.specs.Modifications.{is_key, only_info, is_referring, name_of, is_labelled, is_modification, unlabelled_copies, copies}
use Rattle.scope.specs.Keys.{key_code}
use Rattle.scope.specs.Layout.{mass_code, text_code, composition_code, value_in, part_in, bracket_in, key_field, label_field, parts_field, value_field}
use denote.Enum.Bare.{sameb}
use Rattle.brackets.specs.contracts.Content.{the_type}
use Rattle.brackets.specs.declared.Content.TheVariants.{Mass, Text, Reference, Composition}
use Rattle.brackets.specs.Content.{content_in}
use Rattle.brackets.specs.Codes.{key_is}
use Rattle.basics.specs.Tabled.{tabled_at, tabled_end, tabled_all}

-- ---- what a loop over the m parts has found before part j
pub record Infos (bs : List ℕ) (k m j : ℕ) : Type 0 where
  pub inside : j ≤ m
  pub few : m ≤ part_limit
  pub rest : (ns : List ℤ) → only_info (bracket_in bs ns k) ≡ all (is_key Info) (tabled (part_in bs ns k) j (m - j))

pub infos_start : (bs : List ℕ) (k m : ℕ) → m ≡ parts_field bs k → m ≤ part_limit → Infos bs k m 0
unfolding bracket_in
infos_start bs k m e few =
    record {
      inside = omega arith;
      few = few;
      rest = λ ns. ap (λ n. all (is_key Info) (tabled (part_in bs ns k) 0 n)) (sym e) ∙ ap (all (is_key Info)) (tabled_all (part_in bs ns k) m);
    }

info_here : (bs : List ℕ) (ns : List ℤ) (k j key : ℕ) → key ≡ key_field bs k j → is_key Info (part_in bs ns k j) ≡ eqb key (key_code Info)
unfolding part_in
info_here bs ns k j key e = key_is (key_field bs k j) (key_code Info) (omega arith) (omega arith) ∙ ap (λ n. eqb n (key_code Info)) (sym e)

all_cons : (bs : List ℕ) (ns : List ℤ) (k m j : ℕ) → j < m → all (is_key Info) (tabled (part_in bs ns k) j (m - j)) ≡ is_key Info (part_in bs ns k j) && all (is_key Info) (tabled (part_in bs ns k) (j + 1) (m - (j + 1)))
unfolding all
all_cons bs ns k m j h = rw (tabled_at (part_in bs ns k) j m h)

pub infos_next : {bs : List ℕ} {k m j : ℕ} {key : ℕ} → Infos bs k m j → j < m → key ≡ key_field bs k j → key ≡ key_code Info → Infos bs k m (j + 1)
infos_next {bs} {k} {m} {j} {key} i h e q =
    record {
      inside = omega arith;
      few = i.few;
      rest =
          λ ns. i.rest ns ∙ all_cons bs ns k m j h
          ∙ ap (λ t. t && all (is_key Info) (tabled (part_in bs ns k) (j + 1) (m - (j + 1)))) (info_here bs ns k j key e ∙ eq-eqb key (key_code Info) q);
    }

pub infos_other : {bs : List ℕ} {k m j : ℕ} {key : ℕ} → Infos bs k m j → j < m → key ≡ key_field bs k j → (key ≡ key_code Info → ⊥) → (ns : List ℤ) → false ≡ only_info (bracket_in bs ns k)
infos_other {bs} {k} {m} {j} {key} i h e q ns =
    sym
    (i.rest ns ∙ all_cons bs ns k m j h
    ∙ ap (λ t. t && all (is_key Info) (tabled (part_in bs ns k) (j + 1) (m - (j + 1)))) (info_here bs ns k j key e ∙ ne_eqb key (key_code Info) q))

pub infos_end : {bs : List ℕ} {k m j : ℕ} → Infos bs k m j → m ≤ j → (ns : List ℤ) → true ≡ only_info (bracket_in bs ns k)
unfolding all
infos_end {bs} {k} {m} {j} i h ns = sym (i.rest ns ∙ ap (all (is_key Info)) (tabled_end (part_in bs ns k) j m h))

-- no label before part j
pub record NoLabels (bs : List ℕ) (k m j : ℕ) : Type 0 where
  pub inside : j ≤ m
  pub few : m ≤ part_limit
  pub rest : (ns : List ℤ) → is_labelled (bracket_in bs ns k) ≡ not (none? (flat name_of (tabled (part_in bs ns k) j (m - j))))

pub labels_start : (bs : List ℕ) (k m : ℕ) → m ≡ parts_field bs k → m ≤ part_limit → NoLabels bs k m 0
unfolding bracket_in
labels_start bs k m e few =
    record {
      inside = omega arith;
      few = few;
      rest =
          λ ns. ap (λ n. not (none? (flat name_of (tabled (part_in bs ns k) 0 n)))) (sym e)
          ∙ ap (λ l. not (none? (flat name_of l))) (tabled_all (part_in bs ns k) m);
    }

names_cons : (bs : List ℕ) (ns : List ℤ) (k m j : ℕ) → j < m → flat name_of (tabled (part_in bs ns k) j (m - j)) ≡ name_of (part_in bs ns k j) ++ flat name_of (tabled (part_in bs ns k) (j + 1) (m - (j + 1)))
unfolding flat
names_cons bs ns k m j h = rw (tabled_at (part_in bs ns k) j m h)

unlabelled_here : (bs : List ℕ) (ns : List ℤ) (k j long : ℕ) → long ≡ label_field bs k j → long ≡ 0 → (l : List (List ℕ)) → name_of (part_in bs ns k j) ++ l ≡ l
unfolding part_in
unlabelled_here bs ns k j long e q l = rw (eq-eqb (label_field bs k j) 0 (sym e ∙ q))

labelled_here : (bs : List ℕ) (ns : List ℤ) (k j long : ℕ) → long ≡ label_field bs k j → (long ≡ 0 → ⊥) → (l : List (List ℕ)) → none? (name_of (part_in bs ns k j) ++ l) ≡ false
unfolding part_in
labelled_here bs ns k j long e q l = rw (ne_eqb (label_field bs k j) 0 (λ z. q (e ∙ z)))

pub labels_next : {bs : List ℕ} {k m j : ℕ} {long : ℕ} → NoLabels bs k m j → j < m → long ≡ label_field bs k j → long ≡ 0 → NoLabels bs k m (j + 1)
labels_next {bs} {k} {m} {j} {long} i h e q =
    record {
      inside = omega arith;
      few = i.few;
      rest =
          λ ns. i.rest ns
          ∙ ap (λ l. not (none? l)) (names_cons bs ns k m j h ∙ unlabelled_here bs ns k j long e q (flat name_of (tabled (part_in bs ns k) (j + 1) (m - (j + 1)))));
    }

pub labels_found : {bs : List ℕ} {k m j : ℕ} {long : ℕ} → NoLabels bs k m j → j < m → long ≡ label_field bs k j → (long ≡ 0 → ⊥) → (ns : List ℤ) → true ≡ is_labelled (bracket_in bs ns k)
labels_found {bs} {k} {m} {j} {long} i h e q ns =
    sym
    (i.rest ns ∙ ap (λ l. not (none? l)) (names_cons bs ns k m j h)
    ∙ ap not (labelled_here bs ns k j long e q (flat name_of (tabled (part_in bs ns k) (j + 1) (m - (j + 1))))))

pub labels_end : {bs : List ℕ} {k m j : ℕ} → NoLabels bs k m j → m ≤ j → (ns : List ℤ) → false ≡ is_labelled (bracket_in bs ns k)
unfolding flat
labels_end {bs} {k} {m} {j} i h ns = sym (i.rest ns ∙ ap (λ l. not (none? (flat name_of l))) (tabled_end (part_in bs ns k) j m h))

-- ---- a reference is its bracket's first part
pub no_part : (bs : List ℕ) (k m : ℕ) → m ≡ parts_field bs k → m ≡ 0 → (ns : List ℤ) → false ≡ is_referring (bracket_in bs ns k)
unfolding bracket_in tabled
no_part bs k m e q ns = rw (sym e ∙ q)

first_part : (bs : List ℕ) (ns : List ℤ) (k m : ℕ) → m ≡ parts_field bs k → (m ≡ 0 → ⊥) → is_referring (bracket_in bs ns k) ≡ is_reference (value_in bs ns k 0)
unfolding bracket_in tabled part_in
first_part bs ns k zero e q = absurd (q refl)
first_part bs ns k (suc m) e q = rw (← e)

by_value : (n : Number (Unit {0})) (x : List ℕ) (t u w : Bool)
    → is_reference (cond t (mass n) (cond u (text x) (cond w (composition x n) reference))) ≡ cond t false (cond u false (cond w false true))
by_value n x true u w = refl
by_value n x false true w = refl
by_value n x false false true = refl
by_value n x false false false = refl

-- what the code of a value says: no mass, no text and no composition
abbrev refers : ℕ → Bool
refers v = cond (eqb v mass_code) false (cond (eqb v text_code) false (cond (eqb v composition_code) false true))

refers_by : (t u w : Bool) → sameb the_type (cond t Mass (cond u Text (cond w Composition Reference))) Reference ≡ cond t false (cond u false (cond w false true))
refers_by true u w = refl
refers_by false true w = refl
refers_by false false true = refl
refers_by false false false = refl

pub refers_content : (v : ℕ) → sameb the_type (content_in v) Reference ≡ refers v
refers_content v = refers_by (eqb v mass_code) (eqb v text_code) (eqb v composition_code)

pub reference_is : (bs : List ℕ) (k m v : ℕ) → m ≡ parts_field bs k → (m ≡ 0 → ⊥) → v ≡ value_field bs k 0 → (ns : List ℤ) → refers v ≡ is_referring (bracket_in bs ns k)
reference_is bs k m v e q f ns =
    ap refers f ∙ sym (by_value _ _ (eqb (value_field bs k 0) mass_code) (eqb (value_field bs k 0) text_code) (eqb (value_field bs k 0) composition_code)) ∙ sym (first_part bs ns k m e q)

-- ---- the tests of a modification, one after the other
module _ (b : Bracket (Unit {0})) where
  pub copies_by_kind : {m l : Bool} {k : Kind} {n r : ℕ} → m ≡ is_modification b → m ≡ true → l ≡ is_labelled b → l ≡ false → k ≡ b.kind → n ≡ b.count → r ≡ unlabelled_copies k n → r ≡ copies b
  unfolding copies
  copies_by_kind {m} {l} {k} {n} e t f u g h i =
      sym
      (ap (λ x. cond x (cond (is_labelled b) 1 (unlabelled_copies b.kind b.count)) 0) (sym e ∙ t)
      ∙ ap (λ x. cond x 1 (unlabelled_copies b.kind b.count)) (sym f ∙ u)
      ∙ ap (λ x. unlabelled_copies x b.count) (sym g)
      ∙ ap (unlabelled_copies k) (sym h)
      ∙ sym i)
