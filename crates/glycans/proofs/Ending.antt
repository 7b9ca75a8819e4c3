-- The piece that ends a text: the name before its count. Assumes nothing.
use Rattle.std.proofs.Common.{◌≡◌, refl, ap, ◌∙◌, subst, arith, Bool, true, false, not, cond, List, [], ◌∷◌, ℕ, ◌-◌, ◌≤◌, length, take, drop, length-append, length-take, length-drop}
use Rattle.std.proofs.Math.Option.{Option, none, some}
use Rattle.std.proofs.lemmas.Bool.{false≢true}
use Rattle.std.specs.Prelude.{Some, None}
use lib.Seq.{drop_at, take-take}
use Rattle.scope.specs.Bytes.{upper}
use Rattle.scope.specs.Lists.{given, all, none?}
use Rattle.scope.specs.Glycans.{way, sugars, name_at}
use Rattle.basics.specs.Tests.{and_left, and_right}
use Rattle.glycan_laws.specs.Back.{Backward, backward, backwards, tried, is_front, first_front}
use Rattle.glycan_laws.proofs.Last.{with_name, with_count, last_item}
use Rattle.glycans.specs.Cut.{back, NameIs, digits_text, CountAt, CountIs, PieceAt}
use Rattle.glycans.proofs.Texts.{back_length, back_split, front_length}

-- ---- the name that is found ends the text, and has letters
not_none : {A : Type 0} (y : A) → ◌≡◌ {A = Option A} none (some y) → ⊥
not_none y e = false≢true (ap (λ o. given o (λ z. true) false) e)

some_same : {A : Type 0} (x y : A) → ◌≡◌ {A = Option A} (some x) (some y) → x ≡ y
some_same x y e = ap (λ o. given o (λ z. z) x) e

first_is : (ns : List Backward) (t : List ℕ) (n : Backward) → all (λ m. not (none? m.letters)) ns ≡ true → first_front ns t ≡ some n → (is_front n.letters t ≡ true) × (not (none? n.letters) ≡ true)
unfolding all first_front
first_is [] t n h e = absurd (not_none n e)
first_is (m ∷ ns) t n h e =
    by (is_front m.letters t) refl e (first_is ns t n (and_right (not (none? m.letters)) (all (λ x. not (none? x.letters)) ns) h))
  where
    by : (z : Bool) → is_front m.letters t ≡ z → cond z (some m) (first_front ns t) ≡ some n
        → (first_front ns t ≡ some n → (is_front n.letters t ≡ true) × (not (none? n.letters) ≡ true))
        → (is_front n.letters t ≡ true) × (not (none? n.letters) ≡ true)
    by true q f ih =
        subst (λ (x : Backward). (is_front x.letters t ≡ true) × (not (none? x.letters) ≡ true)) (some_same m n f)
        (q, and_left (not (none? m.letters)) (all (λ x. not (none? x.letters)) ns) h)
    by false q f ih = ih f

tried_letters : all (λ m. not (none? m.letters)) tried ≡ true
unfolding all tried backwards sugars upper
tried_letters = refl

some_length : (l : List ℕ) → not (none? l) ≡ true → 1 ≤ length l
some_length [] e = absurd (false≢true e)
some_length (x ∷ l) e = omega arith

-- ---- no count, no piece
pub wrong_count_lem : (t : List ℕ) → CountIs t None → last_item (back t) ≡ none
unfolding last_item
wrong_count_lem t e = ap with_count e

module _ {t : List ℕ} {start n : ℕ} (at : CountAt t start n) where
  pub no_name : NameIs (take start t) None → last_item (back t) ≡ none
  unfolding last_item
  no_name e = ap with_count at.last ∙ ap (with_name at.written (back (take start t))) e

  -- ---- a piece
  module _ (i : ℕ) (name : NameIs (take start t) (Some i)) where
    letters_long : length (backward i).letters ≡ length (name_at i)
    unfolding backward
    letters_long = back_length (name_at i)

    there : (is_front (backward i).letters (back (take start t)) ≡ true) × (not (none? (backward i).letters) ≡ true)
    there = first_is tried (back (take start t)) (backward i) tried_letters name

    pub name_room : length (name_at i) ≤ start
    name_room =
        omega (arith, letters_long, front_length (backward i).letters (back (take start t)) there.0, back_length (take start t), length-take start t)

    some_size : 1 ≤ length (name_at i)
    some_size = omega (arith, letters_long, some_length (backward i).letters there.1)

    rests : drop (length (backward i).letters) (back (take start t)) ≡ back (take (start - length (name_at i)) t)
    rests =
        let k = start - length (name_at i) in
        let w = name_room in
        let long : length (back (drop k (take start t))) ≡ length (backward i).letters =
        omega (arith, back_length (drop k (take start t)), length-drop k (take start t), length-take start t, at.room, letters_long) in
        ap (drop (length (backward i).letters)) (back_split (take start t) k)
        ∙ drop_at (back (drop k (take start t))) (back (take k (take start t))) (length (backward i).letters) long
        ∙ ap back (take-take k start t (omega arith))

    with_name_lem : with_name at.written (back (take start t)) (some (backward i)) ≡ some (way (record { name = i; count = at.written }) (drop (length (backward i).letters) (back (take start t))))
    unfolding backward
    with_name_lem = refl

    pub piece_there : PieceAt t (start - length (name_at i)) i n
    unfolding last_item
    piece_there =
        let w = name_room in
        let r = at.room in
        let z = some_size in
        record {
          item = record { name = i; count = at.written };
          named = refl;
          counted = at.counted;
          few = at.few;
          before = omega arith;
          room = omega (arith, length-append (name_at i) (digits_text n));
          last =
              ap with_count at.last
              ∙ ap (with_name at.written (back (take start t))) name
              ∙ with_name_lem
              ∙ ap (λ z. some (way (record { name = i; count = at.written }) z)) rests;
        }
