-- Areas that are tables (refusal 14) are those of an accepted line, the canonical one: the tests of equality tell equal areas, and the tables are read back.
use Rattle.std.specs.Prelude.{◌≡◌, refl, true, ◌↔◌, List, [], ◌∷◌, ◌++◌, ℕ, ℤ, pos, negsuc, take, drop}
use Rattle.std.proofs.Common.{sym, ap, ap₂, ◌∙◌, subst, subst₂, take-append-drop, eqb-true, eq-eqb}
use Rattle.std.proofs.lemmas.Bool.{false≢true}
use Rattle.scope.specs.Lists.{same}
use Rattle.scope.specs.Line.{Line}
use Rattle.scope.specs.Refusals.{Outcome, accepted, refused, outcome}
use Rattle.scope.specs.Canonical.{canonical}
use Rattle.scope.specs.Tables.{tables_of}
use Rattle.scope.specs.Layout.{bytes_of, numbers_of, tables_in, bytes_size, numbers_size}
use Rattle.scope.specs.Answers.{same_number, same_numbers, reads_to, are_tables}
use Rattle.areas.specs.Bounds.{Bounds}
use Rattle.basics.specs.Tests.{and_left, and_right}
use Rattle.basics.specs.Lists.{same_law}
use Rattle.accepted_laws.specs.Within.{Within}
use Rattle.layout_laws.proofs.Holds.{Holds}
use Rattle.layout_laws.proofs.LayoutLaws.{tables_back}
use Rattle.layout_laws.proofs.Bounded.{bounds}
use Rattle.accepted_laws.specs.BareWithin.{within_bare}
use Rattle.accepted_laws.specs.Laws.{accepted_within}

-- ---- equality
number_is : (x y : ℤ) → same_number x y ≡ true → x ≡ y
number_is (pos m) (pos n) e = ap pos (eqb-true m n e)
number_is (pos m) (negsuc n) e = absurd (false≢true e)
number_is (negsuc m) (pos n) e = absurd (false≢true e)
number_is (negsuc m) (negsuc n) e = ap negsuc (eqb-true m n e)

number_self : (x : ℤ) → same_number x x ≡ true
number_self (pos m) = eq-eqb m m refl
number_self (negsuc m) = eq-eqb m m refl

numbers_are : (x y : List ℤ) → same_numbers x y ≡ true → x ≡ y
unfolding same_numbers
numbers_are [] [] e = refl
numbers_are [] (b ∷ y) e = absurd (false≢true e)
numbers_are (a ∷ x) [] e = absurd (false≢true e)
numbers_are (a ∷ x) (b ∷ y) e = ap₂ ◌∷◌ (number_is a b (and_left (same_number a b) (same_numbers x y) e))
    (numbers_are x y (and_right (same_number a b) (same_numbers x y) e))

numbers_self : (x : List ℤ) → same_numbers x x ≡ true
unfolding same_numbers
numbers_self [] = refl
numbers_self (a ∷ x) = rw (number_self a) (numbers_self x)

pub same_numbers_law : (x y : List ℤ) → (same_numbers x y ≡ true) ↔ (x ≡ y)
same_numbers_law x y = (numbers_are x y, λ e. subst (λ z. same_numbers x z ≡ true) e (numbers_self x))

-- ---- areas that begin with those of a line
pub begins_with : {A : Type 0} (n : ℕ) (l xs : List A) → take n xs ≡ l → xs ≡ l ++ drop n xs
begins_with n l xs e = sym (take-append-drop n xs) ∙ ap (λ z. z ++ drop n xs) e

pub holds_of :
    (bs : List ℕ) (ns : List ℤ) (s : List ℕ) (l : Line ℕ) → outcome s ≡ accepted l → take bytes_size bs ≡ bytes_of l → take numbers_size ns ≡ numbers_of l
    → Holds bs ns s l
holds_of bs ns s l e f g =
    let w = accepted_within s l e in
    let b : bs ≡ bytes_of l ++ drop bytes_size bs = begins_with bytes_size (bytes_of l) bs f in
    let n : ns ≡ numbers_of l ++ drop numbers_size ns = begins_with numbers_size (numbers_of l) ns g in
    let t : tables_in bs ns ≡ tables_of l = ap₂ tables_in b n ∙ tables_back l w (drop bytes_size bs) (drop numbers_size ns) in
    record {
      reads = e;
      within = w;
      bytes = f;
      numbers = g;
      bounds = subst₂ Bounds (sym b) (sym n) (bounds l w (drop bytes_size bs) (drop numbers_size ns));
      tables = t;
      tables_within = subst Within (sym t) (within_bare l w);
    }

-- the line is the canonical one of the tables that the areas hold
pub tables_held : (bs : List ℕ) (ns : List ℤ) → are_tables bs ns ≡ true → (l : Line ℕ) × Holds bs ns (canonical (tables_in bs ns)) l
unfolding are_tables
tables_held bs ns e = go (outcome (canonical (tables_in bs ns))) refl e
  where
    go :
        (o : Outcome) → outcome (canonical (tables_in bs ns)) ≡ o → reads_to o (take bytes_size bs) (take numbers_size ns) ≡ true
        → (l : Line ℕ) × Holds bs ns (canonical (tables_in bs ns)) l
    go (accepted l) q t = (
      l,
      holds_of bs ns (canonical (tables_in bs ns)) l q
          (sym ((same_law (bytes_of l) (take bytes_size bs)).0 (and_left _ (same_numbers (numbers_of l) (take numbers_size ns)) t)))
          (sym (numbers_are (numbers_of l) (take numbers_size ns) (and_right (same (bytes_of l) (take bytes_size bs)) _ t))),
    )
    go (refused number place) q t = absurd (false≢true t)
