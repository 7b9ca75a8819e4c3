-- Laws of ranks: of what the areas hold, of brackets in order, and of those of one rank. Assumes nothing.
use mathlib.Core.Path.{◌≡◌, refl, sym, ap, ap₂, ◌∙◌}
use mathlib.Core.Bool.{Bool, true, false, cond, ◌&&◌}
use mathlib.Core.List.{List, [], ◌∷◌, ◌++◌, append_assoc}
use Prim.Native.Nat.{ℕ, zero, suc, ◌+◌, ◌-◌, ◌≤◌, ◌<◌}
use native.Mathlib.Nat.{add-zero, zero-add, le_trans, le_refl}
use native.Mathlib.Numerals.{add-one}
use native.Mathlib.Omega.{arith}
use lib.Dec.{eqb, leb}
use lib.IntN.{ℤ}
use borrow.Author.Tests.{eq-eqb, ne_eqb, eqb-true, le-leb, lt-leb, leb-true, leb-false}
use Rattle.basics.specs.Choice.{by_test}
use Rattle.basics.specs.Kinds.{is_kind_lem, each_kind}
use Rattle.basics.specs.Tests.{both, both_of, same_test}
use Rattle.scope.specs.declared.grammar.Kind.{Kind}
use Rattle.scope.specs.declared.grammar.Kind.TheVariants.{CTerm, Declared}
use Rattle.scope.specs.Line.{Place, Part, Bracket}
use Rattle.scope.specs.Bytes.{bar, comma}
use Rattle.scope.specs.Places.{site_text, places_text}
use Rattle.scope.specs.Canonical.{part_text, parts_text}
use Rattle.scope.specs.Lists.{tabled}
use Rattle.scope.specs.Layout.{bracket_in, tables_in, brackets_field, kind_field, parts_field}
use Rattle.scope.specs.Kinds.{kind_code, kind_in, is_kind}
use Rattle.areas.specs.Bounds.{Bounds}
use Rattle.writer.specs.Here.{BracketHere, PartHere}
use Rattle.writer.specs.Written.{next_text}
use Rattle.writer.specs.Ranks.{kind_rank, rank_of, rank, rising, orderedb, InOrder, rank_in, c_term_rank, ReadyToWrite}

-- ---- lists of what stands in a row
module _ {A : Type 0} (f : ℕ → A) where
  tabled_snoc : (i n : ℕ) → tabled f i (suc n) ≡ tabled f i n ++ (f (i + n) ∷ [])
  unfolding tabled
  tabled_snoc i zero = rw (add-zero i)
  tabled_snoc i (suc n) = ap (λ l. f i ∷ l) (tabled_snoc (i + 1) n ∙ ap (λ k. tabled f (i + 1) n ++ (f k ∷ [])) (omega arith))

  pub tabled_more : (n : ℕ) → tabled f 0 (n + 1) ≡ tabled f 0 n ++ (f n ∷ [])
  tabled_more n = ap (tabled f 0) (add-one n) ∙ tabled_snoc 0 n ∙ ap (λ k. tabled f 0 n ++ (f k ∷ [])) (zero-add n)

  pub tabled_from : (k m : ℕ) → k < m → tabled f k (m - k) ≡ f k ∷ tabled f (k + 1) (m - (k + 1))
  unfolding tabled
  tabled_from k m h =
      let e : m - k ≡ suc (m - (k + 1)) = omega arith in
      rw e

  pub tabled_over : (k m : ℕ) → m ≤ k → tabled f k (m - k) ≡ []
  unfolding tabled
  tabled_over k m h =
      let e : m - k ≡ 0 = omega arith in
      rw e

-- ---- a row that is split by a byte b: T is its text, and t that of one
module _ {A : Type 0} (b : ℕ) (t : A → List ℕ) (T : List A → List ℕ) (none : T [] ≡ []) (one : (x : A) → T (x ∷ []) ≡ t x)
    (split : (x y : A) (l : List A) → T (x ∷ y ∷ l) ≡ t x ++ (b ∷ T (y ∷ l))) where
  split_snoc : (y : A) (l : List A) (x : A) → T ((y ∷ l) ++ (x ∷ [])) ≡ T (y ∷ l) ++ (b ∷ t x)
  split_snoc y [] x = split y x [] ∙ rw (one x, one y)
  split_snoc y (z ∷ l) x =
      split y z (l ++ (x ∷ []))
      ∙ ap (λ u. t y ++ (b ∷ u)) (split_snoc z l x)
      ∙ sym (append_assoc (t y) (b ∷ T (z ∷ l)) (b ∷ t x))
      ∙ ap (λ u. u ++ (b ∷ t x)) (sym (split y z l))

  split_more : (f : ℕ → A) (j : ℕ) → T (tabled f 0 j) ++ next_text b j (t (f j)) ≡ T (tabled f 0 (j + 1))
  unfolding tabled
  split_more f zero = rw (none, one (f 0))
  split_more f (suc j) =
      rw (ne_eqb (suc j) 0 (λ e. omega arith)) (sym (ap T (tabled_more f (suc j)) ∙ split_snoc (f 0) (tabled f (0 + 1) j) (f (suc j))))

-- ---- parts and places
pub parts_more : {P : Type 0} (f : ℕ → Part P) (j : ℕ) → parts_text (tabled f 0 j) ++ next_text bar j (part_text (f j)) ≡ parts_text (tabled f 0 (j + 1))
unfolding parts_text
parts_more f = split_more bar part_text parts_text refl (λ p. refl) (λ p q l. refl) f

pub places_more : {P : Type 0} (f : ℕ → Place P) (j : ℕ) → places_text (tabled f 0 j) ++ next_text comma j (site_text (f j).site) ≡ places_text (tabled f 0 (j + 1))
unfolding places_text
places_more f = split_more comma (λ p. site_text p.site) places_text refl (λ p. refl) (λ p q l. refl) f

pub no_places : {P : Type 0} (f : ℕ → Place P) → [] ≡ places_text (tabled f 0 0)
unfolding places_text tabled
no_places f = refl

pub no_parts_lem : {P : Type 0} (f : ℕ → Part P) → [] ≡ parts_text (tabled f 0 0)
unfolding parts_text tabled
no_parts_lem f = refl

-- ---- what lies inside the areas
pub bracket_here : (bs : List ℕ) (ns : List ℤ) (k : ℕ) → Bounds bs ns → k < brackets_field bs → BracketHere bs ns k
bracket_here bs ns k b h =
    let l = b.bracket k h in
    record {
      bytes_room = b.bytes_room;
      numbers_room = b.numbers_room;
      low = omega (arith, b.few_brackets_lem);
      few_parts_lem = l.few_parts_lem;
      few_places = l.few_places;
      score = l.score;
      part = l.part;
    }

pub part_here : (bs : List ℕ) (ns : List ℤ) (k j : ℕ) → BracketHere bs ns k → j < parts_field bs k → PartHere bs ns k j
part_here bs ns k j b h = record { bracket = b; low = omega (arith, b.few_parts_lem); bounds = b.part j h }

-- ---- the rank in a row
pub rank_is : (bs : List ℕ) (ns : List ℤ) (k : ℕ) → rank (bracket_in bs ns k) ≡ rank_in bs k
unfolding bracket_in
rank_is bs ns k = refl

-- no kind's rank is above that of the C-terminus
kind_low : (k : Kind) → kind_rank k ≤ kind_rank CTerm
kind_low k = leb-true (kind_rank k) (kind_rank CTerm) (each_kind (λ j. leb (kind_rank j) (kind_rank CTerm)) refl k)

-- the number of a kind, from its rank
abbrev code_ranked : ℕ → ℕ
code_ranked r = cond (eqb r 0) (kind_code Declared) r

code_ranked_lem : (k : Kind) → kind_code k ≡ code_ranked (kind_rank k)
code_ranked_lem k = eqb-true (kind_code k) (code_ranked (kind_rank k)) (each_kind (λ j. eqb (kind_code j) (code_ranked (kind_rank j))) refl k)

-- nor is a rank, of tables within bounds
pub rank_within : (bs : List ℕ) (ns : List ℤ) (k : ℕ) → Bounds bs ns → k < brackets_field bs → rank_in bs k ≤ c_term_rank bs
rank_within bs ns k b h = omega (arith, kind_low (kind_in (kind_field bs k)), (b.bracket k h).last)

-- ---- ranks tell kinds and positions apart
pub rank_tells : (j k : Kind) (last i : ℕ) → (is_kind j k && eqb last i) ≡ eqb (rank_of k last) (rank_of j i)
rank_tells j k last i =
    same_test (is_kind j k && eqb last i) (eqb (rank_of k last) (rank_of j i))
    (λ e. let p = both_of (is_kind j k) (eqb last i) e in eq-eqb _ _ (ap₂ rank_of (is_kind_lem j k p.0) (eqb-true last i p.1)))
    (λ e.
    let q = eqb-true (rank_of k last) (rank_of j i) e in
    let same : kind_rank k ≡ kind_rank j = omega (arith, kind_low j, kind_low k) in
    both (is_kind j k) (eqb last i) (eq-eqb (kind_code k) (kind_code j) (code_ranked_lem k ∙ ap code_ranked same ∙ sym (code_ranked_lem j)))
    (eq-eqb last i (omega (arith, kind_low j, kind_low k))))

-- ---- whether they rise
pub record Risen (bs : List ℕ) (m k q : ℕ) : Type 0 where
  pub low : k ≤ m
  pub same : (ns : List ℤ) → orderedb (tables_in bs ns) ≡ rising q (tabled (bracket_in bs ns) k (m - k))

pub risen_start : (bs : List ℕ) (m : ℕ) → m ≡ brackets_field bs → Risen bs m 0 0
unfolding orderedb tables_in
risen_start bs m e =
    record {
      low = omega arith;
      same = λ ns.
          let p : brackets_field bs ≡ m - 0 = omega (arith, e) in
          ap (λ n. rising 0 (tabled (bracket_in bs ns) 0 n)) p;
    }

rising_first : {P : Type 0} (q r : ℕ) (x : Bracket P) (l : List (Bracket P)) (t : Bool) → rank x ≡ r → leb q r ≡ t → rising q (x ∷ l) ≡ (t && rising r l)
unfolding rising
rising_first q r x l t e f = rw (e, f)

module _ {bs : List ℕ} {m k q : ℕ} (a : Risen bs m k q) (h : k < m) {r : ℕ} (e : r ≡ rank_in bs k) where
  pub risen_more : q ≤ r → Risen bs m (k + 1) r
  risen_more g =
      record {
        low = omega arith;
        same = λ ns.
            a.same ns ∙ ap (rising q) (tabled_from (bracket_in bs ns) k m h) ∙ rising_first q r _ _ true (rank_is bs ns k ∙ sym e) (le-leb q r g);
      }

  pub risen_stop : r < q → (ns : List ℤ) → false ≡ orderedb (tables_in bs ns)
  risen_stop g ns =
      sym
      (a.same ns ∙ ap (rising q) (tabled_from (bracket_in bs ns) k m h) ∙ rising_first q r _ _ false (rank_is bs ns k ∙ sym e) (lt-leb q r g))

pub risen_end : {bs : List ℕ} {m k q : ℕ} → Risen bs m k q → m ≤ k → (ns : List ℤ) → true ≡ orderedb (tables_in bs ns)
unfolding rising
risen_end {bs} {m} {k} {q} a h ns = sym (a.same ns ∙ ap (rising q) (tabled_over (bracket_in bs ns) k m h))

-- ---- in order, by index
module _ (f : ℕ → Bracket (Unit {0})) where
  rising_least : (n k q : ℕ) → rising q (tabled f k n) ≡ true → (i : ℕ) → k ≤ i → i < k + n → q ≤ rank (f i)
  unfolding rising tabled
  rising_least zero k q e i h l = absurd (omega arith)
  rising_least (suc n) k q e i h l =
      let p = both_of (leb q (rank (f k))) _ e in
      let a : q ≤ rank (f k) = leb-true _ _ p.0 in
      by_test (leb (k + 1) i)
      (λ t. le_trans a (rising_least n (k + 1) (rank (f k)) p.1 i (leb-true _ _ t) (omega arith)))
      (λ t. let g : k ≡ i = omega (arith, leb-false (k + 1) i t) in rw g at a)

  rising_sorted : (n k q : ℕ) → rising q (tabled f k n) ≡ true → (i j : ℕ) → k ≤ i → i ≤ j → j < k + n → rank (f i) ≤ rank (f j)
  unfolding rising tabled
  rising_sorted zero k q e i j h g l = absurd (omega arith)
  rising_sorted (suc n) k q e i j h g l =
      let p = both_of (leb q (rank (f k))) _ e in
      by_test (leb (k + 1) i)
      (λ t. rising_sorted n (k + 1) (rank (f k)) p.1 i j (leb-true _ _ t) g (omega arith))
      (λ t.
      let u : k ≡ i = omega (arith, leb-false (k + 1) i t) in
      by_test (leb (k + 1) j)
      (λ s. let a = rising_least n (k + 1) (rank (f k)) p.1 j (leb-true _ _ s) (omega arith) in rw u at a)
      (λ s. let v : i ≡ j = omega (arith, leb-false (k + 1) j s) in rw v (le_refl (rank (f j)))))

pub ready : (bs : List ℕ) (ns : List ℤ) → Bounds bs ns → InOrder (tables_in bs ns) → ReadyToWrite bs ns
unfolding orderedb tables_in
ready bs ns b o =
    record {
      bounds = b;
      sorted = λ i k h l.
          let a = rising_sorted (bracket_in bs ns) (brackets_field bs) 0 0 o i k (omega arith) h (omega arith) in
          rw (rank_is bs ns i, rank_is bs ns k) at a;
    }
