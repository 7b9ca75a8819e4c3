-- Laws of comparing a label, of searching for it, and of finding the part that has it. Assumes nothing.
use Prim.Native.Nat.{ℕ, zero, suc, ◌+◌, ◌-◌, ◌≤◌, ◌<◌}
use mathlib.Core.Path.{◌≡◌, sym, ap, ◌∙◌}
use mathlib.Core.Bool.{Bool, true, false, cond, ◌||◌}
use mathlib.Core.List.{List}
use native.Mathlib.Omega.{arith}
use lib.Dec.{eqb}
use lib.ListN.{length, drop, length-drop, length-take}
use borrow.Author.Tests.{eq-eqb, ne_eqb}
use Rattle.scope.specs.Lists.{same, among, part, tabled}
use Rattle.basics.specs.Lists.{same_length, among_append}
use Rattle.sheet.specs.Rows.{masses_room}
use Rattle.sheet.specs.Fields.{parts_field, labels_field, base_field, label_from_field, label_to_field}
use Rattle.rules.specs.Told.{name_at, PartLegible, AllLegible, labelled_from, side_is, side_at, side_from}

-- ---- two labels
module _ (line parts : List ℕ) where
  name_length : (x : ℕ) → PartLegible line parts x → length (name_at line parts x) ≡ label_to_field parts x - label_from_field parts x
  name_length x l =
      omega (arith, l.ordered, l.within, length-take (label_to_field parts x - label_from_field parts x) (drop (label_from_field parts x) line), length-drop (label_from_field parts x) line)

  -- with a and b where they start, e and f where they end
  module _ (x y : ℕ) {a e b f : ℕ} (p : a ≡ label_from_field parts x) (q : e ≡ label_to_field parts x) (r : b ≡ label_from_field parts y) (s : f ≡ label_to_field parts y) where
    pub label_other : PartLegible line parts x → PartLegible line parts y → (e - a ≡ f - b → ⊥) → false ≡ same (name_at line parts x) (name_at line parts y)
    label_other l m h =
        sym (same_length (name_at line parts x) (name_at line parts y) (λ z. h (omega (arith, z, name_length x l, name_length y m))))

    pub label_same : {t : Bool} → e - a ≡ f - b → t ≡ same (part a (e - a) line) (part b (e - a) line) → t ≡ same (name_at line parts x) (name_at line parts y)
    label_same h k =
        let g : e - a ≡ label_to_field parts y - label_from_field parts y = omega arith in
        let i : e - a ≡ label_to_field parts x - label_from_field parts x = omega arith in
        k
        ∙ (ap (λ (n : ℕ). same (part a (e - a) line) (part b n line)) g
        ∙ (ap (λ (n : ℕ). same (part a n line) (part b (label_to_field parts y - label_from_field parts y) line)) i
        ∙ (ap (λ (c : ℕ). same (part c (label_to_field parts x - label_from_field parts x) line) (part b (label_to_field parts y - label_from_field parts y) line)) p
        ∙ ap (λ (c : ℕ). same (name_at line parts x) (part c (label_to_field parts y - label_from_field parts y) line)) r)))

-- ---- searching m parts from the y-th on
module _ (x : List ℕ) (f : ℕ → List ℕ) (y m : ℕ) where
  -- the first i of them have others
  pub record NotAmong (i : ℕ) : Type 0 where
    pub within : i ≤ m
    pub left : among x (tabled f (y + i) (m - i)) ≡ among x (tabled f y m)

  pub among_starts : NotAmong 0
  among_starts =
      let e : m - 0 ≡ m = omega arith in
      let g : y + 0 ≡ y = omega arith in
      record { within = omega arith; left = rw (e, g) }

  module _ (i : ℕ) (s : NotAmong i) where
    module _ (h : i < m) {t : Bool} (e : t ≡ same x (f (y + i))) where
      among_next : among x (tabled f y m) ≡ t || among x (tabled f (y + (i + 1)) (m - (i + 1)))
      unfolding among tabled
      among_next =
          let q : m - i ≡ suc (m - (i + 1)) = omega arith in
          let g : y + i + 1 ≡ y + (i + 1) = omega arith in
          rw (e, ← g) (sym (rw q at s.left))

      pub among_more : t ≡ false → NotAmong (i + 1)
      among_more g = record { within = omega arith; left = sym (rw g at among_next) }

      pub among_found : t ≡ true → true ≡ among x (tabled f y m)
      among_found g = sym (rw g at among_next)

    pub among_ends : m ≤ i → false ≡ among x (tabled f y m)
    unfolding among tabled
    among_ends h =
        let q : m - i ≡ 0 = omega arith in
        rw q at s.left

-- ---- which brackets are searched
module _ (line heads parts : List ℕ) (refers : Bool) where
  module _ (k : ℕ) (x : List ℕ) {c : ℕ} (e : c ≡ labels_field heads k) where
    pub side_none : c ≡ 0 → false ≡ among x (side_at line heads parts refers k)
    unfolding among
    side_none h = rw (eq-eqb (labels_field heads k) 0 (sym e ∙ h))

    module _ (h : c ≡ 0 → ⊥) {u : Bool} (g : u ≡ side_is heads refers k) where
      pub side_other : u ≡ false → false ≡ among x (side_at line heads parts refers k)
      unfolding among
      side_other i = rw (ne_eqb (labels_field heads k) 0 (λ z. h (e ∙ z)), sym g ∙ i)

      pub side_searched : u ≡ true → {t : Bool} {a b : ℕ} → a ≡ base_field heads k → b ≡ parts_field heads k → t ≡ among x (tabled (name_at line parts) a b)
          → t ≡ among x (side_at line heads parts refers k)
      side_searched i {a = a} {b = b} p q w =
          w
          ∙ ap (λ (n : ℕ). among x (tabled (name_at line parts) n b)) p
          ∙ ap (λ (n : ℕ). among x (tabled (name_at line parts) (base_field heads k) n)) q
          ∙ rw (ne_eqb (labels_field heads k) 0 (λ z. h (e ∙ z)), sym g ∙ i)

  -- searching the first n brackets
  module _ (x : List ℕ) (n : ℕ) where
    pub record NotNamed (k : ℕ) : Type 0 where
      pub within : k ≤ n
      pub left : among x (side_from line heads parts refers k (n - k)) ≡ among x (side_from line heads parts refers 0 n)

    pub named_starts : NotNamed 0
    named_starts =
        let e : n - 0 ≡ n = omega arith in
        record { within = omega arith; left = rw e }

    module _ (k : ℕ) (s : NotNamed k) where
      module _ (h : k < n) {t : Bool} (e : t ≡ among x (side_at line heads parts refers k)) where
        named_next : among x (side_from line heads parts refers 0 n) ≡ t || among x (side_from line heads parts refers (k + 1) (n - (k + 1)))
        unfolding side_from
        named_next =
            let q : n - k ≡ suc (n - (k + 1)) = omega arith in
            rw e
            (sym (rw q at s.left)
            ∙ among_append x (side_at line heads parts refers k) (side_from line heads parts refers (k + 1) (n - (k + 1))))

        pub named_more : t ≡ false → NotNamed (k + 1)
        named_more g = record { within = omega arith; left = sym (rw g at named_next) }

        pub named_found : t ≡ true → true ≡ among x (side_from line heads parts refers 0 n)
        named_found g = sym (rw g at named_next)

      pub named_ends : n ≤ k → false ≡ among x (side_from line heads parts refers 0 n)
      unfolding side_from among
      named_ends h =
          let q : n - k ≡ 0 = omega arith in
          rw q at s.left

-- ---- the part that has a label
module _ (parts : List ℕ) where
  pub labelled_range : (x m : ℕ) → (x ≤ labelled_from parts x m) × (labelled_from parts x m ≤ x + m)
  unfolding labelled_from
  labelled_range x zero = (omega arith, omega arith)
  labelled_range x (suc m) = go (eqb (label_to_field parts x) 0) (labelled_range (x + 1) m)
    where
      go : (t : Bool) → (x + 1 ≤ labelled_from parts (x + 1) m) × (labelled_from parts (x + 1) m ≤ x + 1 + m)
          → (x ≤ cond t (labelled_from parts (x + 1) m) x) × (cond t (labelled_from parts (x + 1) m) x ≤ x + suc m)
      go true w = (omega (arith, w.0), omega (arith, w.1))
      go false w = (omega arith, omega arith)

  -- the first parts from `base` on, before x, have none
  module _ (base m : ℕ) where
    pub record SeekingLabel (last x : ℕ) : Type 0 where
      pub ends : last ≡ base + m
      pub begins : base ≤ x
      pub within : x ≤ last
      pub left : labelled_from parts x (last - x) ≡ labelled_from parts base m

    pub seek_starts : {x c : ℕ} → x ≡ base → 0 < c → m ≡ c - 1 → SeekingLabel (x + c - 1) x
    seek_starts {x = x} {c = c} e h g =
        let q : x + c - 1 - x ≡ m = omega arith in
        record { ends = omega arith; begins = omega arith; within = omega arith; left = rw (q, e) }

    module _ (last x : ℕ) (s : SeekingLabel last x) where
      module _ (h : x < last) {t : ℕ} (e : t ≡ label_to_field parts x) where
        step : last - x ≡ suc (last - (x + 1))
        step = omega arith

        pub seek_found : (t ≡ 0 → ⊥) → x ≡ labelled_from parts base m
        unfolding labelled_from
        seek_found g = rw (step, ne_eqb (label_to_field parts x) 0 (λ z. g (e ∙ z))) at s.left

        pub seek_more : t ≡ 0 → SeekingLabel last (x + 1)
        unfolding labelled_from
        seek_more g =
            record {
              ends = s.ends;
              begins = omega (arith, s.begins);
              within = omega arith;
              left = rw (step, eq-eqb (label_to_field parts x) 0 (sym e ∙ g)) at s.left;
            }

      pub seek_ends : last ≤ x → last ≡ labelled_from parts base m
      unfolding labelled_from
      seek_ends h =
          let q : last - x ≡ 0 = omega (arith, s.within) in
          let end : last ≡ x = omega (arith, s.within) in
          end ∙ (rw q at s.left)

-- ---- what can be read
pub legible_fewer : (line heads parts : List ℕ) (n k : ℕ) → AllLegible line heads parts n → k ≤ n → AllLegible line heads parts k
legible_fewer line heads parts n k a h =
    record {
      few = omega (arith, a.few);
      legible = λ j i l g. a.legible j i (omega arith) g;
      some_part = λ j l g. a.some_part j (omega arith) g;
    }

-- with a the number of a bracket's first part and b how many it has, as read
pub legible_read : (line heads parts : List ℕ) (n k : ℕ) → AllLegible line heads parts n → k < n → {a b : ℕ} → a ≡ base_field heads k → b ≡ parts_field heads k
    → (i : ℕ) → i < b → PartLegible line parts (a + i)
legible_read line heads parts n k a h p q i l = rw p (a.legible k i h (omega arith))

-- the parts of a bracket that has a label
module _ (line heads parts : List ℕ) (n k : ℕ) (a : AllLegible line heads parts n) (h : k < n) {c : ℕ} (e : c ≡ labels_field heads k) (g : c ≡ 0 → ⊥) where
  pub some_parts : 0 < parts_field heads k
  some_parts = a.some_part k h (omega arith)

  pub parts_fit : base_field heads k + parts_field heads k ≤ masses_room
  parts_fit = omega (arith, some_parts, (a.legible k (parts_field heads k - 1) h (omega (arith, some_parts))).noted)

  pub labelled_legible : {x : ℕ} → x ≡ labelled_from parts (base_field heads k) (parts_field heads k - 1) → PartLegible line parts x
  labelled_legible {x = x} q =
      let w = labelled_range parts (base_field heads k) (parts_field heads k - 1) in
      let d : x ≡ base_field heads k + (x - base_field heads k) = omega (arith, w.0) in
      rw d (a.legible k (x - base_field heads k) h (omega (arith, w.0, w.1, some_parts)))
