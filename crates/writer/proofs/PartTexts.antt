-- What the numbers of a part's row, and of its bracket's score, write. Assumes nothing.
use mathlib.Core.Path.{◌≡◌, refl, sym, ◌∙◌}
use mathlib.Core.Bool.{Bool, true, false, cond}
use mathlib.Core.List.{List, [], ◌∷◌, ◌++◌}
use Prim.Native.Nat.{ℕ, ◌+◌, ◌-◌, ◌≤◌}
use native.Mathlib.Omega.{arith}
use lib.ListN.{take, drop, length-take}
use lib.Dec.{eqb}
use lib.IntN.{ℤ}
use borrow.Author.Tests.{eq-eqb, ne_eqb}
use Rattle.scope.specs.Bytes.{open_round, shut_round, hash}
use Rattle.scope.specs.Canonical.{mass_text, score_text, value_text, label_text, part_text}
use Rattle.scope.specs.Lists.{given, part}
use Rattle.scope.specs.Keys.{written, key_in}
use Rattle.scope.specs.Layout.{mass_code, text_code, composition_code, texts_at, number_in, score_in, label_in, value_in, part_in, decimals_field, key_field, label_field, mass_field, offset_field, score_field, score_number, text_field, value_field}
use Rattle.figures.specs.Written.{Puts}
use Rattle.figures.proofs.Storing.{puts_exact}
use Rattle.writer.specs.Written.{text_at, scored_text, next_text}

-- a slice of n bytes is put, at most b of them
pub puts_part : (l : List ℕ) (s n : ℕ) {b m : ℕ} {o : List ℕ} {at : ℕ} {left : List ℕ} {r : ℕ} → n ≤ b → Puts m o at (take (s + n - s) (drop s l)) left r → Puts b o at (part s n l) left r
puts_part l s n h a = let k : s + n - s ≡ n = omega arith in puts_exact (omega (arith, length-take n (drop s l))) (rw k at a)

-- ---- scores, labels and values
module _ (bs : List ℕ) (ns : List ℤ) (k : ℕ) where
  pub scored_none : {c : ℕ} → c ≡ score_field bs k → c ≡ 0 → [] ≡ scored_text (score_in bs ns k)
  scored_none e z = rw (eq-eqb (score_field bs k) 0 (sym e ∙ z))

  pub scored_some :
      {c : ℕ} {m : ℤ} → c ≡ score_field bs k → (c ≡ 0 → ⊥) → m ≡ score_number ns k
      → (open_round ∷ []) ++ (score_text (number_in m (c - 1)) ++ (shut_round ∷ [])) ≡ scored_text (score_in bs ns k)
  scored_some e z f =
      let q : eqb (score_field bs k) 0 ≡ false = ne_eqb _ _ (λ h. z (e ∙ h)) in
      rw (q, f, e)

  module _ (j : ℕ) where
    pub label_none : {n : ℕ} → n ≡ label_field bs k j → n ≡ 0 → [] ≡ given (label_in bs ns k j) label_text []
    label_none e z = rw (eq-eqb (label_field bs k j) 0 (sym e ∙ z))

    pub label_some :
        {n t from : ℕ} → n ≡ label_field bs k j → (n ≡ 0 → ⊥) → t ≡ text_field bs k j
        → from ≡ texts_at + offset_field bs k j
        → (hash ∷ []) ++ (part (from + t) n bs ++ scored_text (score_in bs ns k)) ≡ given (label_in bs ns k j) label_text []
    label_some e z f g =
        let q : eqb (label_field bs k j) 0 ≡ false = ne_eqb _ _ (λ h. z (e ∙ h)) in
        rw (q, g, f, e)

    module _ {v : ℕ} (e : v ≡ value_field bs k j) where
      pub value_mass_lem :
          {d : ℕ} {m : ℤ} → v ≡ mass_code → d ≡ decimals_field bs k j → m ≡ mass_field ns k j
          → mass_text (number_in m d) ≡ value_text (value_in bs ns k j)
      value_mass_lem o g f =
          let q : eqb (value_field bs k j) mass_code ≡ true = eq-eqb _ _ (sym e ∙ o) in
          rw (q, f, g)

      pub value_text_lem : v ≡ text_code → text_at bs k j ≡ value_text (value_in bs ns k j)
      value_text_lem o = let q : value_field bs k j ≡ text_code = sym e ∙ o in rw q

      pub value_composition : v ≡ composition_code → text_at bs k j ≡ value_text (value_in bs ns k j)
      value_composition o = let q : value_field bs k j ≡ composition_code = sym e ∙ o in rw q

      pub value_none : (v ≡ mass_code → ⊥) → (v ≡ text_code → ⊥) → (v ≡ composition_code → ⊥) → [] ≡ value_text (value_in bs ns k j)
      value_none o p w =
          let q : eqb (value_field bs k j) mass_code ≡ false = ne_eqb _ _ (λ z. o (e ∙ z)) in
          let r : eqb (value_field bs k j) text_code ≡ false = ne_eqb _ _ (λ z. p (e ∙ z)) in
          let s : eqb (value_field bs k j) composition_code ≡ false = ne_eqb _ _ (λ z. w (e ∙ z)) in
          rw (q, r, s)

    pub part_text_lem :
        {c : ℕ} → c ≡ key_field bs k j
        → written (key_in c) ++ (value_text (value_in bs ns k j) ++ given (label_in bs ns k j) label_text []) ≡ part_text (part_in bs ns k j)
    unfolding part_text part_in
    part_text_lem e = rw e

-- ---- parts or places in a row
module _ (b j : ℕ) (t : List ℕ) where
  pub next_first : j ≡ 0 → t ≡ next_text b j t
  next_first e = rw e

  pub next_later : (j ≡ 0 → ⊥) → (b ∷ []) ++ t ≡ next_text b j t
  next_later z = rw (ne_eqb j 0 z)

-- the byte that splits, and what stands behind it
pub next_split : (b j : ℕ) (t : List ℕ) → next_text b j [] ++ t ≡ next_text b j t
next_split b j t = go (eqb j 0)
  where
    go : (x : Bool) → cond x [] (b ∷ []) ++ t ≡ cond x t (b ∷ t)
    go true = refl
    go false = refl
