-- What the tests of the code say of the tables: refusals 10, 21, 11 and 12 of a bracket. Assumes nothing.
use Prim.Native.Nat.{ℕ, ◌≤◌, ◌<◌}
use mathlib.Core.Path.{◌≡◌, sym, ap, ◌∙◌}
use mathlib.Core.Bool.{Bool, true, false, not}
use mathlib.Core.List.{List}
use native.Mathlib.Omega.{arith}
use lib.Dec.{eqb}
use borrow.Author.Tests.{eq-eqb, ne_eqb, le-leb, lt-leb, lt-ltb, le-ltb}
use Rattle.scope.specs.declared.grammar.Kind.TheVariants.{Unknown, Labile, OnRange, Declared}
use Rattle.scope.specs.Kinds.{kind_code}
use Rattle.scope.specs.Lists.{among}
use Rattle.sheet.specs.Fields.{kind_field, sort_field, counted_field, labels_field, written_count}
use Rattle.rules.specs.Told.{info_sort, unlabelled_sort, labelled_sort, reference_sort, info_at, declared_info_at, name_at, side_from, wrong_label, wrong_at, labelled_at, copies_in}

-- ---- 10
module _ (heads : List ℕ) (k : ℕ) {x : ℕ} (e : x ≡ kind_field heads k) where
  pub info_kind : kind_code Labile < x → false ≡ info_at heads k
  info_kind h = rw (lt-leb (kind_field heads k) (kind_code Labile) (omega arith))

  pub info_sort_lem : x ≤ kind_code Labile → {y : ℕ} → y ≡ sort_field heads k → eqb y info_sort ≡ info_at heads k
  info_sort_lem h f = rw (le-leb (kind_field heads k) (kind_code Labile) (omega arith), f)

  -- ---- 21
  pub declared_not : (x ≡ kind_code Declared → ⊥) → false ≡ declared_info_at heads k
  declared_not h = rw (ne_eqb (kind_field heads k) (kind_code Declared) (λ z. h (e ∙ z)))

  pub declared_sort : x ≡ kind_code Declared → {y : ℕ} → y ≡ sort_field heads k → eqb y info_sort ≡ declared_info_at heads k
  declared_sort h f = rw (eq-eqb (kind_field heads k) (kind_code Declared) (sym e ∙ h), f)

-- ---- 11: a bracket's one label, and its labels
module _ (line heads parts : List ℕ) (n k : ℕ) where
  module _ (x : ℕ) {s : ℕ} (e : s ≡ sort_field heads k) where
    pub wrong_reference : s ≡ reference_sort → {t : Bool} → t ≡ among (name_at line parts x) (side_from line heads parts false 0 n)
        → not t ≡ wrong_label line heads parts n k x
    wrong_reference h g = rw (eq-eqb (sort_field heads k) reference_sort (sym e ∙ h)) (ap not g)

    module _ (h : s ≡ reference_sort → ⊥) {t : Bool} (g : t ≡ among (name_at line parts x) (side_from line heads parts false 0 k)) where
      pub wrong_again : t ≡ true → true ≡ wrong_label line heads parts n k x
      wrong_again i = rw (ne_eqb (sort_field heads k) reference_sort (λ z. h (e ∙ z)), sym g ∙ i)

      module _ (i : t ≡ false) {c : ℕ} (l : c ≡ kind_field heads k) where
        pub wrong_unreferred : c ≡ kind_code Unknown → {u : Bool} → u ≡ among (name_at line parts x) (side_from line heads parts true 0 n)
            → not u ≡ wrong_label line heads parts n k x
        wrong_unreferred j m =
            rw (ne_eqb (sort_field heads k) reference_sort (λ z. h (e ∙ z)), sym g ∙ i, eq-eqb (kind_field heads k) (kind_code Unknown) (sym l ∙ j)) (ap not m)

        pub wrong_not : (c ≡ kind_code Unknown → ⊥) → false ≡ wrong_label line heads parts n k x
        wrong_not j = rw (ne_eqb (sort_field heads k) reference_sort (λ z. h (e ∙ z)), sym g ∙ i, ne_eqb (kind_field heads k) (kind_code Unknown) (λ z. j (l ∙ z)))

  module _ {m : ℕ} (e : m ≡ labels_field heads k) where
    pub wrong_none : m ≡ 0 → false ≡ wrong_at line heads parts n k
    wrong_none h = rw (eq-eqb (labels_field heads k) 0 (sym e ∙ h))

    module _ (h : m ≡ 0 → ⊥) where
      pub wrong_two : 1 < m → true ≡ wrong_at line heads parts n k
      wrong_two g = rw (ne_eqb (labels_field heads k) 0 (λ z. h (e ∙ z)), lt-ltb 1 (labels_field heads k) (omega arith))

      module _ (g : m ≤ 1) {c : Bool} (i : c ≡ eqb (counted_field heads k) written_count) where
        pub wrong_counted : c ≡ true → true ≡ wrong_at line heads parts n k
        wrong_counted j = rw (ne_eqb (labels_field heads k) 0 (λ z. h (e ∙ z)), le-ltb 1 (labels_field heads k) (omega arith), sym i ∙ j)

        pub wrong_one : c ≡ false → {x : ℕ} → x ≡ labelled_at heads parts k → {t : Bool} → t ≡ wrong_label line heads parts n k x → t ≡ wrong_at line heads parts n k
        wrong_one j p q =
            rw (ne_eqb (labels_field heads k) 0 (λ z. h (e ∙ z)), le-ltb 1 (labels_field heads k) (omega arith), sym i ∙ j)
            (q ∙ ap (wrong_label line heads parts n k) p)

-- ---- 12
module _ (sort kind count : ℕ) where
  pub copies_labelled : {x : ℕ} → x ≡ sort → x ≡ labelled_sort → 1 ≡ copies_in sort kind count
  copies_labelled e h = rw (eq-eqb sort labelled_sort (omega arith))

  module _ {x : ℕ} (e : x ≡ sort) (h : x ≡ labelled_sort → ⊥) where
    pub copies_none : (x ≡ unlabelled_sort → ⊥) → 0 ≡ copies_in sort kind count
    copies_none g = rw (ne_eqb sort labelled_sort (λ z. h (e ∙ z)), ne_eqb sort unlabelled_sort (λ z. g (e ∙ z)))

    module _ (g : x ≡ unlabelled_sort) {y : ℕ} (f : y ≡ kind) where
      pub copies_unknown : {z : ℕ} → y ≡ kind_code Unknown → z ≡ count → z ≡ copies_in sort kind count
      copies_unknown l i = rw (ne_eqb sort labelled_sort (λ z. h (e ∙ z)), eq-eqb sort unlabelled_sort (omega arith), eq-eqb kind (kind_code Unknown) (omega arith)) i

      pub copies_ranged : (y ≡ kind_code Unknown → ⊥) → y ≡ kind_code OnRange → 1 ≡ copies_in sort kind count
      copies_ranged l i =
          rw (ne_eqb sort labelled_sort (λ z. h (e ∙ z)), eq-eqb sort unlabelled_sort (omega arith), ne_eqb kind (kind_code Unknown) (λ z. l (f ∙ z)), eq-eqb kind (kind_code OnRange) (omega arith))

      pub copies_placed : (y ≡ kind_code Unknown → ⊥) → (y ≡ kind_code OnRange → ⊥) → 0 ≡ copies_in sort kind count
      copies_placed l i =
          rw (ne_eqb sort labelled_sort (λ z. h (e ∙ z)), eq-eqb sort unlabelled_sort (omega arith), ne_eqb kind (kind_code Unknown) (λ z. l (f ∙ z)), ne_eqb kind (kind_code OnRange) (λ z. i (f ∙ z)))
