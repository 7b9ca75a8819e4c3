-- Brackets in a line, in their plain spelling: one after the other in square or in curly brackets, and with counts in unknown runs. What is said of one bracket holds
-- of all of a list, and of all unknown runs as of one.
use Rattle.std.specs.Prelude.{ℕ, ◌+◌, ◌≤◌, ◌≡◌, refl, Bool, false, ◌&&◌, ◌||◌, eqb, ltb}
use Rattle.std.proofs.Common.{sym, ap, ap₂, ◌∙◌, subst, arith, length-append, ltb-false, eqb-true}
use Rattle.std.proofs.Math.Bool.{true}
use Rattle.std.proofs.Math.Option.{Option, none, some, none-ne-some}
use mathlib.Core.List.{List, [], ◌∷◌, ◌++◌, map, map-append, append-nil}
use Rattle.std.proofs.Math.ListN.{length}
use Rattle.scope.specs.declared.grammar.Kind.{Kind}
use Rattle.scope.specs.declared.grammar.Kind.TheVariants.{Unknown, Labile}
use Rattle.scope.specs.Bytes.{open_square, shut_square, open_curly, shut_curly, caret, question, dash}
use Rattle.scope.specs.Canonical.{decimal, parts_text, square_text, unknown_text, closed_by, led_by}
use Rattle.scope.specs.Grammar.{value_on, Inside, print_inside, good_inside, means_inside, print_square, print_curly, print_front, print_back, along, each_along, good_squares, good_curlies, bracket_at, means_squares, counting, Marked, print_marked, good_marked, means_marked, Run, marks, print_run, good_run, means_run}
use Rattle.scope.specs.Limits.{count_limit}
use Rattle.scope.specs.Line.{Part, Bracket}
use Rattle.scope.specs.Lists.{all, flat}
use Rattle.scope.specs.Refusals.{due_at, wide_count, wide_mass, wide_score}
use Rattle.scope.specs.Tables.{bare_part, bare_bracket}
use Rattle.basics.specs.Each.{Each, each_append, each_front, each_back, each_through}
use Rattle.basics.specs.Lists.{nil_front, nil_back, not_due, flat_append_length}
use Rattle.basics.specs.Choice.{branch_on, pick_true, pick_false}
use Rattle.basics.specs.Tests.{and_left, and_right, both, or_right}
use Rattle.canonical_laws.proofs.Decimal.{Writes, decimal_writes, decimal_short}
use Rattle.canonical_laws.proofs.Endings.{Brackets, On, Ends}
use Rattle.canonical_laws.proofs.PlainParts.{plain_good, plain_text_lem, plain_means, plain_short}
use Rattle.canonical_laws.proofs.Short.{short_bracket}
use Rattle.canonical_laws.specs.Plainly.{plain_inside, plain_insides, plain_count, plain_marked, plain_runs}
use Rattle.canonical_laws.proofs.Refusals.{Alike}

-- no count, mass or score of the bracket is out of range
abbrev pub Fits : Bracket ℕ → Type 0
Fits k = wide_count k ++ flat (λ p. wide_mass p.value ++ wide_score p) k.parts ≡ []

-- a part of a line in its plain spelling: whether that is good; what the canonical line writes of it, what is printed of it plainly, and what of it as it was; the
-- brackets that it means, and those that it means in its plain spelling, from a place on
pub record Spelt (good : Bool) (text plain old : List ℕ) (ks : Brackets) (qs : ℕ → Brackets) : Type 0 where
  pub fine : good ≡ true
  pub says : text ≡ plain
  pub same : (j : ℕ) → Alike ks (qs j)
  pub short : length plain ≤ length old

pub spelt_none : Spelt true [] [] [] [] (λ j. [])
spelt_none = record { fine = refl; says = refl; same = λ j. tt; short = omega arith }

alike_append : (a b c d : Brackets) → Alike a b → Alike c d → Alike (a ++ c) (b ++ d)
alike_append [] [] c d p q = q
alike_append [] (y ∷ b) c d p q = absurd p
alike_append (x ∷ a) [] c d p q = absurd p
alike_append (x ∷ a) (y ∷ b) c d p q = (p.0, alike_append a b c d p.1 q)

pub shorter : (p o q r : List ℕ) → length p ≤ length o → length q ≤ length r → length (p ++ q) ≤ length (o ++ r)
shorter p o q r h k = simp length-append (omega arith)

pub spelt_append : {a b : Bool} {t u p q o r : List ℕ} {ks ls : Brackets} {qs rs : ℕ → Brackets} (f : ℕ → ℕ) → Spelt a t p o ks qs → Spelt b u q r ls rs
    → Spelt (a && b) (t ++ u) (p ++ q) (o ++ r) (ks ++ ls) (λ j. qs j ++ rs (f j))
spelt_append {p = p} {q = q} {o = o} {r = r} {ks = ks} {ls = ls} {qs = qs} {rs = rs} f x y =
    record {
      fine = both _ _ x.fine y.fine;
      says = ap₂ ◌++◌ x.says y.says;
      same = λ j. alike_append ks (qs j) ls (rs (f j)) (x.same j) (y.same (f j));
      short = shorter p o q r x.short y.short;
    }

-- with a byte before it, or behind it
module _ {g : Bool} {t p o : List ℕ} {ks : Brackets} {qs : ℕ → Brackets} (b : ℕ) (x : Spelt g t p o ks qs) where
  pub spelt_led : Spelt g (b ∷ t) (b ∷ p) (b ∷ o) ks (λ j. qs (j + 1))
  spelt_led = record { fine = x.fine; says = ap (λ l. b ∷ l) x.says; same = λ j. x.same (j + 1); short = omega arith }

  pub spelt_closed : Spelt g (t ++ (b ∷ [])) (p ++ (b ∷ [])) (o ++ (b ∷ [])) ks qs
  spelt_closed = record { fine = x.fine; says = ap (λ l. l ++ (b ∷ [])) x.says; same = x.same; short = shorter p o (b ∷ []) (b ∷ []) x.short (omega arith) }

-- with its text and its brackets put otherwise
pub spelt_as : {g : Bool} {t u p o : List ℕ} {ks ls : Brackets} {qs rs : ℕ → Brackets} → Spelt g t p o ks qs → u ≡ t → ls ≡ ks → ((j : ℕ) → qs j ≡ rs j) → Spelt g u p o ls rs
spelt_as {ks = ks} {rs = rs} x e d f =
    record { fine = x.fine; says = e ∙ x.says; same = λ j. subst (λ (z : Brackets). Alike z (rs j)) (sym d) (subst (λ (z : Brackets). Alike ks z) (f j) (x.same j)); short = x.short }

-- ---- brackets one behind another
-- how brackets of one sort are printed, what each means at a place, which are good, how each is spelt plainly, and what the canonical line writes of what it means
pub record Sort (X : Type 0) : Type 0 where
  pub prints : X → List ℕ
  pub means : ℕ → X → Bracket ℕ
  pub good : X → Bool
  pub plain : X → X
  pub text : Bracket ℕ → List ℕ

-- one of them, and a list
abbrev pub Plain : {X : Type 0} → Sort X → Bracket ℕ → X → Type 0
Plain w k x = Spelt (w.good (w.plain x)) (w.text k) (w.prints (w.plain x)) (w.prints x) (k ∷ []) (λ j. w.means j (w.plain x) ∷ [])

abbrev pub Plains : {X : Type 0} → Sort X → Brackets → List X → Type 0
Plains w ks xs = Spelt (all w.good (map w.plain xs)) (flat w.text ks) (flat w.prints (map w.plain xs)) (flat w.prints xs) ks (λ j. along w.prints w.means j (map w.plain xs))

module _ {X : Type 0} (w : Sort X) (one : (i : ℕ) (x : X) → w.good x ≡ true → Fits (w.means i x) → Plain w (short_bracket (w.means i x)) x) where
  none_plain : Plains w [] []
  unfolding all flat along
  none_plain = spelt_none

  -- with others behind them
  plain_then : (i : ℕ) (xs : List X) → all w.good xs ≡ true → Each Fits (along w.prints w.means i xs) → (ks : Brackets) (ys : List X) → Plains w ks ys
      → Plains w (map short_bracket (along w.prints w.means i xs) ++ ks) (xs ++ ys)
  unfolding all flat along
  plain_then i [] f n ks ys b = b
  plain_then i (x ∷ xs) f n ks ys b =
      spelt_append (λ j. j + length (w.prints (w.plain x))) (one i x (and_left (w.good x) _ f) n.0) (plain_then (i + length (w.prints x)) xs (and_right (w.good x) _ f) n.1 ks ys b)

  pub all_plain : (i : ℕ) (xs : List X) → all w.good xs ≡ true → Each Fits (along w.prints w.means i xs) → Plains w (map short_bracket (along w.prints w.means i xs)) xs
  all_plain i xs f n = simp append-nil at (plain_then i xs f n [] [] none_plain)

pub each_along_lem : {A B : Type 0} (Q : B → Type 0) (prints : A → List ℕ) (f : ℕ → A → B) → ((i : ℕ) (x : A) → Q (f i x)) → (i : ℕ) (l : List A) → Each Q (along prints f i l)
unfolding along
each_along_lem Q prints f h i [] = tt
each_along_lem Q prints f h i (x ∷ l) = (h i x, each_along_lem Q prints f h (i + length (prints x)) l)

-- ---- in square or in curly brackets
abbrev pub boxes : ℕ → ℕ → Bool → Bool → Kind → ℕ → ℕ → Sort Inside
boxes begin shut references labels c first last =
    record {
      prints = λ x. begin ∷ (print_inside x ++ (shut ∷ []));
      means = bracket_at c first last;
      good = good_inside references labels;
      plain = plain_inside;
      text = λ k. begin ∷ (parts_text k.parts ++ (shut ∷ []));
    }

abbrev pub squares : Bool → Kind → ℕ → ℕ → Sort Inside
squares references c first last = boxes open_square shut_square references true c first last

abbrev pub curlies : Sort Inside
curlies = boxes open_curly shut_curly false false Labile 0 0

abbrev with_parts : Kind → ℕ → ℕ → ℕ → List (Part (Unit {0})) → Bracket (Unit {0})
with_parts c first last n ps = record { kind = c; first = first; last = last; count = n; counted = none; parts = ps; places = []; at = tt }

pub boxed : (begin shut : ℕ) (r labels : Bool) (c : Kind) (a b i : ℕ) (x : Inside) → good_inside r labels x ≡ true → Fits (bracket_at c a b i x)
    → Plain (boxes begin shut r labels c a b) (short_bracket (bracket_at c a b i x)) x
boxed begin shut r labels c a b i x f n =
    record {
      fine = plain_good r labels x f (i + 1) n;
      says = ap (λ z. begin ∷ (z ++ (shut ∷ []))) (plain_text_lem r labels x f (i + 1) n);
      same = λ j. (record { bare = ap (with_parts c a b 1) (sym (plain_means r labels x f (i + 1) n (j + 1))); uncounted = λ e. refl }, tt);
      short = simp length-append (omega (arith, plain_short r labels x f (i + 1) n));
    }

-- a bracket with its compositions short stands where it stood
pub on_short : (c : Kind) (p : ℕ) (ks : Brackets) → Each (On c p) ks → Each (On c p) (map short_bracket ks)
on_short c p ks w = each_through (On c p) (On c p) short_bracket (λ k h. h) ks w

pub ends_short : (a b : ℕ) (ks : Brackets) → Each (Ends a b) ks → Each (Ends a b) (map short_bracket ks)
ends_short a b ks w = each_through (Ends a b) (Ends a b) short_bracket (λ k h. h) ks w

pub boxes_on : (prints : Inside → List ℕ) (c : Kind) (first last i : ℕ) (xs : List Inside) → Each (On c last) (along prints (bracket_at c first last) i xs)
boxes_on prints c first last i xs = each_along_lem (On c last) prints (bracket_at c first last) (λ j x. (refl, refl)) i xs

pub squares_plain : (r : Bool) (c : Kind) (a b i : ℕ) (xs : List Inside) → good_squares r xs ≡ true → Each Fits (means_squares c a b i xs)
    → Plains (squares r c a b) (map short_bracket (means_squares c a b i xs)) xs
squares_plain r c a b i xs = all_plain (squares r c a b) (boxed open_square shut_square r true c a b) i xs

pub curlies_plain : (i : ℕ) (xs : List Inside) → good_curlies xs ≡ true → Each Fits (along print_curly (bracket_at Labile 0 0) i xs)
    → Plains curlies (map short_bracket (along print_curly (bracket_at Labile 0 0) i xs)) xs
curlies_plain i xs = all_plain curlies (boxed open_curly shut_curly false false Labile 0 0) i xs

-- ---- at the termini
abbrev Terminal : (List ℕ → List ℕ) → (List Inside → List ℕ) → (ℕ → List Inside → Brackets) → Brackets → List Inside → Type 0
Terminal ends prints means ks xs =
    Spelt (good_squares true (plain_insides xs)) (ends (flat square_text ks)) (prints (plain_insides xs)) (prints xs) ks (λ j. means j (plain_insides xs))

module _ (c : Kind) (q : ℕ) where
  pub front_plain : (i : ℕ) (xs : List Inside) → good_squares true xs ≡ true → Each Fits (means_squares c q q i xs)
      → Terminal (λ l. closed_by l dash) print_front (means_squares c q q) (map short_bracket (means_squares c q q i xs)) xs
  unfolding all flat along
  front_plain i [] f n = spelt_none
  front_plain i (x ∷ xs) f n = spelt_closed dash (squares_plain true c q q i (x ∷ xs) f n)

  pub back_plain : (i : ℕ) (xs : List Inside) → good_squares true xs ≡ true → Each Fits (means_squares c q q i xs)
      → Terminal (led_by dash) print_back (λ j. means_squares c q q (j + 1)) (map short_bracket (means_squares c q q i xs)) xs
  unfolding all flat along
  back_plain i [] f n = spelt_none
  back_plain i (x ∷ xs) f n = spelt_led dash (squares_plain true c q q i (x ∷ xs) f n)

-- ---- with a count
abbrev marked : Sort Marked
marked = record { prints = print_marked; means = means_marked; good = good_marked; plain = plain_marked; text = unknown_text }

abbrev with_count : Inside → Option (List ℕ) → Marked
with_count x o = record { inside = x; count = o }

-- the bracket x with the count o, in its plain spelling with the count p
module _ (i j : ℕ) (x : Inside) where
  abbrev unknown_at : Option (List ℕ) → Bracket ℕ
  unknown_at o = counting j o (bracket_at Unknown 0 0 i x)

  abbrev Counted : Option (List ℕ) → Option (List ℕ) → Type 0
  Counted o p =
      Spelt (good_marked (with_count (plain_inside x) p)) (unknown_text (short_bracket (unknown_at o))) (print_marked (with_count (plain_inside x) p)) (print_marked (with_count x o))
      (short_bracket (unknown_at o) ∷ [])
      (λ h. means_marked h (with_count (plain_inside x) p) ∷ [])

  counted_plain : (o : Option (List ℕ)) → good_marked (with_count x o) ≡ true → Fits (unknown_at o) → Counted o (plain_count o)
  counted_plain none f n = spelt_append (λ h. h) (boxed open_square shut_square false true Unknown 0 0 i x (and_left _ true f) n) spelt_none
  counted_plain (some ds) f n = branch_on (Counted (some ds)) (eqb v 1) once more
    where
      v : ℕ
      v = value_on 0 ds

      due : List ℕ
      due = due_at (eqb v 0 || ltb count_limit v) (j + 1)

      written : Writes v (decimal v)
      written = decimal_writes v (omega (arith, ltb-false count_limit v (or_right (eqb v 0) _ (not_due _ (j + 1) (nil_front due _ n)))))

      box : Plain (squares false Unknown 0 0) (short_bracket (unknown_at none)) x
      box = boxed open_square shut_square false true Unknown 0 0 i x (and_left (good_inside false true x) _ f) (nil_back due _ n)

      bare : (h m : ℕ) → v ≡ m → bare_bracket (short_bracket (unknown_at (some ds))) ≡ with_parts Unknown 0 0 m (map bare_part (means_inside (h + 1) (plain_inside x)))
      bare h m e = ap₂ (with_parts Unknown 0 0) e (ap (λ (z : Bracket (Unit {0})). z.parts) (box.same h).0.bare)

      once : eqb v 1 ≡ true → Counted (some ds) none
      once e =
          record {
            fine = both _ true box.fine refl;
            says = ap₂ ◌++◌ box.says (pick_true (eqb v 1) _ _ e);
            same = λ h. (record { bare = bare h 1 (eqb-true v 1 e); uncounted = λ u. refl }, tt);
            short = shorter (print_square (plain_inside x)) (print_square x) [] (caret ∷ ds) box.short (omega arith);
          }

      more : eqb v 1 ≡ false → Counted (some ds) (some (decimal v))
      more e =
          record {
            fine = both _ _ box.fine written.digits;
            says = ap₂ ◌++◌ box.says (pick_false (eqb v 1) _ _ e);
            same = λ h. (record { bare = bare h _ (sym written.back); uncounted = λ u. absurd (none-ne-some (j + 1) (sym u)) }, tt);
            short = shorter (print_square (plain_inside x)) (print_square x) (caret ∷ decimal v) (caret ∷ ds) box.short (omega (arith, decimal_short ds (and_right (good_inside false true x) _ f)));
          }

marked_plain : (i : ℕ) (m : Marked) → good_marked m ≡ true → Fits (means_marked i m) → Plain marked (short_bracket (means_marked i m)) m
marked_plain i m f n = counted_plain i (i + length (print_square m.inside)) m.inside m.count f n

-- ---- "the splitting of unknown runs" is not kept
counting_on : (j : ℕ) (o : Option (List ℕ)) (k : Bracket ℕ) → On Unknown 0 k → On Unknown 0 (counting j o k)
counting_on j none k w = w
counting_on j (some ds) k w = w

pub runs_on : (i : ℕ) (rs : List Run) → Each (On Unknown 0) (each_along print_run means_run i rs)
unfolding each_along
runs_on i [] = tt
runs_on i (r ∷ rs) =
    each_append (On Unknown 0) (means_run i r) _ (each_along_lem (On Unknown 0) print_marked means_marked (λ j m. counting_on _ m.count _ (refl, refl)) i (marks r))
    (runs_on (i + length (print_run r)) rs)

marks_plain : (i : ℕ) (rs : List Run) → all good_run rs ≡ true → Each Fits (each_along print_run means_run i rs)
    → Plains marked (map short_bracket (each_along print_run means_run i rs)) (flat marks rs)
unfolding all flat each_along
marks_plain i [] f n = none_plain marked marked_plain
marks_plain i (r ∷ rs) f n =
    rw (map-append short_bracket (means_run i r) (each_along print_run means_run (i + length (print_run r)) rs))
    (plain_then marked marked_plain i (marks r) (and_left (good_run r) _ f) (each_front Fits (means_run i r) _ n) _ (flat marks rs)
    (marks_plain (i + length (print_run r)) rs (and_right (good_run r) _ f) (each_back Fits (means_run i r) _ n)))

run_lengths : (rs : List Run) → length (flat print_run rs) ≡ length (flat print_marked (flat marks rs)) + length rs
unfolding flat
run_lengths [] = refl
run_lengths (r ∷ rs) =
    let one = length-append (flat print_marked (marks r)) (question ∷ []) in
    omega (arith, one, length-append (print_run r) (flat print_run rs), flat_append_length print_marked (marks r) (flat marks rs), run_lengths rs)

pub runs_plain : (i : ℕ) (rs : List Run) → all good_run rs ≡ true → Each Fits (each_along print_run means_run i rs)
    → Spelt (all good_run (plain_runs rs)) (closed_by (flat unknown_text (map short_bracket (each_along print_run means_run i rs))) question) (flat print_run (plain_runs rs))
    (flat print_run rs) (map short_bracket (each_along print_run means_run i rs)) (λ j. each_along print_run means_run j (plain_runs rs))
unfolding all flat each_along
runs_plain i [] f n = spelt_none
runs_plain i (r ∷ rs) f n =
    let ks = marks_plain i (r ∷ rs) f n in
    let ms = map plain_marked (flat marks (r ∷ rs)) in
    record {
      fine = both _ true ks.fine refl;
      says = ap (λ l. closed_by l question) ks.says ∙ sym (append-nil _);
      same = λ j. rw append-nil (ks.same j);
      short = omega (arith, run_lengths (r ∷ rs), ap length (append-nil (flat print_marked ms ++ (question ∷ []))), length-append (flat print_marked ms) (question ∷ []), ks.short);
    }
