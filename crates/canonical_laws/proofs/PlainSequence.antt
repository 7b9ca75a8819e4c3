-- The sequence in its plain spelling: residues with their brackets, alone or in groups. What is said of one element holds of all of them.
use Prim.Native.Nat.{ℕ, suc, ◌+◌, ◌-◌, ◌≤◌}
use Rattle.std.proofs.Common.{arith, add-zero, sym, ◌∙◌, true≢false, length-append, eq-eqb, leb-true, le-leb}
use Rattle.std.specs.Prelude.{◌≡◌, true, false, cond, ◌&&◌, eqb, leb}
use Rattle.std.proofs.Math.Path.{refl, ap, ap₂}
use mathlib.Core.List.{List, [], ◌∷◌, ◌++◌, map, append_assoc, append-nil, map-append}
use Rattle.std.proofs.Math.ListN.{length}
use Rattle.std.proofs.lemmas.List.{length-map}
use Rattle.std.proofs.lemmas.Bool.{lt-leb}
use Rattle.scope.specs.declared.grammar.Kind.{Kind}
use Rattle.scope.specs.declared.grammar.Kind.TheVariants.{OnResidue, OnRange}
use Rattle.scope.specs.declared.grammar.Section.{Section}
use Rattle.scope.specs.declared.grammar.Section.TheVariants.{Plain, RangeFirst, RangeNext, UnsureFirst, UnsureNext}
use Rattle.scope.specs.Bytes.{upper, is_lower, is_letter, open_round, shut_round, question}
use Rattle.scope.specs.Canonical.{square_text, ending_at, opening, ending, is_next, goes_on, sequence_text}
use Rattle.scope.specs.Grammar.{Inside, print_square, along, each_along, good_squares, print_squares, means_squares, Spot, Element, single, range, unsure, print_spot, print_element, good_spot, good_element, residue_of, residues_on, residues_in, brackets_on, brackets_in, brackets_along}
use Rattle.scope.specs.Kinds.{is_kind}
use Rattle.scope.specs.Line.{Residue}
use Rattle.scope.specs.Lists.{none?, all, keep, flat}
use Rattle.scope.specs.Tables.{bare_residue}
use Rattle.basics.specs.Choice.{by_test, pick_true, pick_false}
use Rattle.basics.specs.Each.{Each, each_append, each_front, each_back}
use Rattle.basics.specs.Lists.{flat_one, flat_one_length}
use Rattle.basics.specs.Tests.{and_left, and_right, both, both_of, or_first}
use Rattle.canonical_laws.proofs.Endings.{Brackets, Ends, on_ends, ending_append, ending_on, ending_off, own_text, range_text, front_off, back_off, text_on, text_last, sequence_append}
use Rattle.canonical_laws.proofs.PlainBrackets.{on_short, ends_short, Fits, Spelt, spelt_none, spelt_append, spelt_led, spelt_closed, spelt_as, Plains, squares, boxes_on, squares_plain}
use Rattle.canonical_laws.proofs.Short.{short_bracket}
use Rattle.canonical_laws.specs.Plainly.{plain_insides, plain_spot, plain_element}
use Rattle.canonical_laws.proofs.Refusals.{same_length}

-- ---- lists
along_length : {A B : Type 0} (prints : A → List ℕ) (f : ℕ → A → B) (i : ℕ) (l : List A) → length (along prints f i l) ≡ length l
unfolding along
along_length prints f i [] = refl
along_length prints f i (x ∷ l) = ap suc (along_length prints f (i + length (prints x)) l)

-- ---- letters
lower_range : (b : ℕ) → is_lower b ≡ true → (97 ≤ b) × (b ≤ 122)
lower_range b e = (leb-true 97 b (and_left (leb 97 b) (leb b 122) e), leb-true b 122 (and_right (leb 97 b) (leb b 122) e))

pub upper_twice : (b : ℕ) → upper (upper b) ≡ upper b
unfolding upper
upper_twice b =
    by_test (is_lower b)
    (λ e. let u : upper b ≡ b - 32 = pick_true (is_lower b) _ _ e in ap upper u ∙ pick_false (is_lower (b - 32)) _ _ (rw (lt-leb 97 (b - 32) (omega (arith, lower_range b e)))) ∙ sym u)
    (λ e. ap upper (pick_false (is_lower b) _ _ e))

pub upper_letter : (b : ℕ) → is_letter b ≡ true → is_letter (upper b) ≡ true
unfolding upper
upper_letter b e =
    by_test (is_lower b)
    (λ l. let r = lower_range b l in ap is_letter (pick_true (is_lower b) _ _ l) ∙ or_first _ _ (both _ _ (le-leb 65 (b - 32) (omega arith)) (le-leb (b - 32) 90 (omega arith))))
    (λ l. ap is_letter (pick_false (is_lower b) _ _ l) ∙ e)

-- ---- residues
same_residues : (c : Section) (i j : ℕ) (ss : List Spot) → map bare_residue (along print_spot (residue_of c) j (map plain_spot ss)) ≡ map bare_residue (along print_spot (residue_of c) i ss)
unfolding along
same_residues c i j [] = refl
same_residues c i j (s ∷ ss) = ap₂ (λ b rs. record { letter = b; section = c; at = tt } ∷ rs) (upper_twice s.letter) (same_residues c (i + length (print_spot s)) (j + length (print_spot (plain_spot s))) ss)

element_residues : (i j : ℕ) (e : Element) → map bare_residue (residues_in j (plain_element e)) ≡ map bare_residue (residues_in i e)
element_residues i j (single s) = ap (λ b. record { letter = b; section = Plain; at = tt } ∷ []) (upper_twice s.letter)
element_residues i j (range s ss x xs) = ap₂ (λ b rs. record { letter = b; section = RangeFirst; at = tt } ∷ rs) (upper_twice s.letter) (same_residues RangeNext _ _ ss)
element_residues i j (unsure s ss) = ap₂ (λ b rs. record { letter = b; section = UnsureFirst; at = tt } ∷ rs) (upper_twice s.letter) (same_residues UnsureNext _ _ ss)

pub sequence_residues : (i j : ℕ) (es : List Element) → map bare_residue (each_along print_element residues_in j (map plain_element es)) ≡ map bare_residue (each_along print_element residues_in i es)
unfolding each_along
sequence_residues i j [] = refl
sequence_residues i j (e ∷ es) = simp map-append (ap₂ ◌++◌ (element_residues i j e) (sequence_residues (i + length (print_element e)) (j + length (print_element (plain_element e))) es))

-- ---- where the brackets end
squares_here : (c : Kind) (p : ℕ) (d : Kind) (first last i : ℕ) (xs : List Inside)
    → ending_at c p (map short_bracket (means_squares d first last i xs)) ≡ cond (is_kind c d && eqb last p) (map short_bracket (means_squares d first last i xs)) []
squares_here c p d first last i xs = ending_on c p d last (map short_bracket (means_squares d first last i xs)) (on_short d last (means_squares d first last i xs) (boxes_on print_square d first last i xs))

squares_end : (a b : ℕ) (c : Kind) (first last i : ℕ) (xs : List Inside) → a ≤ last → last ≤ b → Each (Ends a b) (means_squares c first last i xs)
squares_end a b c first last i xs h k = on_ends c last a b h k (means_squares c first last i xs) (boxes_on print_square c first last i xs)

-- the brackets of a residue, and of those behind it; the same with compositions short
abbrev own_at : ℕ → ℕ → Spot → Brackets
own_at n i s = means_squares OnResidue n n (i + 1) s.brackets

abbrev rest_at : ℕ → ℕ → Spot → List Spot → Brackets
rest_at n i s ss = brackets_on (n + 1) (i + length (print_spot s)) ss

abbrev own : ℕ → ℕ → Spot → Brackets
own n i s = map short_bracket (own_at n i s)

abbrev rest : ℕ → ℕ → Spot → List Spot → Brackets
rest n i s ss = map short_bracket (rest_at n i s ss)

abbrev spotted : ℕ → ℕ → List Spot → Brackets
spotted n i ss = map short_bracket (brackets_on n i ss)

spotted_cons : (n i : ℕ) (s : Spot) (ss : List Spot) → spotted n i (s ∷ ss) ≡ own n i s ++ rest n i s ss
unfolding brackets_on
spotted_cons n i s ss = map-append short_bracket (own_at n i s) (rest_at n i s ss)

spots_end : (a b n i : ℕ) (ss : List Spot) → a ≤ n → n + length ss ≤ b + 1 → Each (Ends a b) (brackets_on n i ss)
unfolding brackets_on
spots_end a b n i [] h k = tt
spots_end a b n i (s ∷ ss) h k =
    each_append (Ends a b) (own_at n i s) (rest_at n i s ss) (squares_end a b OnResidue n n (i + 1) s.brackets h (omega arith))
    (spots_end a b (n + 1) (i + length (print_spot s)) ss (omega arith) (omega arith))

element_ends : (a b n i : ℕ) (e : Element) → a ≤ n + 1 → n + length (residues_in i e) ≤ b → Each (Ends a b) (brackets_in n i e)
element_ends a b n i (single s) h k = spots_end a b (n + 1) i (s ∷ []) (omega arith) (omega arith)
element_ends a b n i (range s ss x xs) h k =
    let l = along_length print_spot (residue_of RangeNext) (i + 1 + length (print_spot s)) ss in
    each_append (Ends a b) (brackets_on (n + 1) (i + 1) (s ∷ ss)) _ (spots_end a b (n + 1) (i + 1) (s ∷ ss) (omega arith) (omega arith))
    (squares_end a b OnRange (n + 1) (n + 1 + length ss) _ (x ∷ xs) (omega arith) (omega arith))
element_ends a b n i (unsure s ss) h k =
    let l = along_length print_spot (residue_of UnsureNext) (i + 1 + 1 + length (print_spot s)) ss in
    spots_end a b (n + 1) (i + 1 + 1) (s ∷ ss) (omega arith) (omega arith)

pub sequence_ends : (a b n i : ℕ) (es : List Element) → a ≤ n + 1 → n + length (each_along print_element residues_in i es) ≤ b → Each (Ends a b) (brackets_along n i es)
unfolding brackets_along each_along
sequence_ends a b n i [] h k = tt
sequence_ends a b n i (e ∷ es) h k =
    let l = length-append (residues_in i e) (each_along print_element residues_in (i + length (print_element e)) es) in
    each_append (Ends a b) (brackets_in n i e) _ (element_ends a b n i e h (omega arith))
    (sequence_ends a b (n + length (residues_in i e)) (i + length (print_element e)) es (omega arith) (omega arith))

-- ---- residues with their brackets
fits_spot : (n i : ℕ) (s : Spot) (ss : List Spot) → Each Fits (brackets_on n i (s ∷ ss)) → Each Fits (own_at n i s) × Each Fits (rest_at n i s ss)
unfolding brackets_on
fits_spot n i s ss w = (each_front Fits (own_at n i s) (rest_at n i s ss) w, each_back Fits (own_at n i s) (rest_at n i s ss) w)

own_plain : (n i : ℕ) (s : Spot) (ss : List Spot) → good_spot s ≡ true → Each Fits (brackets_on n i (s ∷ ss)) → Plains (squares true OnResidue n n) (own n i s) s.brackets
own_plain n i s ss f w = squares_plain true OnResidue n n (i + 1) s.brackets (and_right (is_letter s.letter) _ f) (fits_spot n i s ss w).0

-- apart from the text of the group in which they stand
abbrev Spots : ℕ → ℕ → List Spot → Type 0
Spots n i ss =
    Spelt (all good_spot (map plain_spot ss)) (flat print_spot (map plain_spot ss)) (flat print_spot (map plain_spot ss)) (flat print_spot ss) (spotted n i ss)
    (λ j. brackets_on n j (map plain_spot ss))

spots_plain : (n i : ℕ) (ss : List Spot) → all good_spot ss ≡ true → Each Fits (brackets_on n i ss) → Spots n i ss
unfolding all flat brackets_on
spots_plain n i [] f w = spelt_none
spots_plain n i (s ∷ ss) f w =
    let good = and_left (good_spot s) _ f in
    let ks = own_plain n i s ss good w in
    let one : Spelt (good_spot (plain_spot s)) (print_spot (plain_spot s)) (print_spot (plain_spot s)) (print_spot s) (own n i s) (λ j. own_at n j (plain_spot s)) =
    record { fine = both _ _ (upper_letter s.letter (and_left _ _ good)) ks.fine; says = refl; same = λ j. ks.same (j + 1); short = omega (arith, ks.short) } in
    rw (spotted_cons n i s ss)
    (spelt_append (λ j. j + length (print_spot (plain_spot s))) one (spots_plain (n + 1) (i + length (print_spot s)) ss (and_right (good_spot s) _ f) (fits_spot n i s ss w).1))

-- ---- the text of a group
-- what continues it neither opens nor ends it otherwise
abbrev Group : Section → Section → Type 0
Group first next = (is_next next ≡ true) × (opening next ≡ []) × (ending next ≡ ending first)

not_ranges : (p n i : ℕ) (ss : List Spot) → ending_at OnRange p (spotted n i ss) ≡ []
unfolding brackets_on keep
not_ranges p n i [] = refl
not_ranges p n i (s ∷ ss) =
    ap (ending_at OnRange p) (spotted_cons n i s ss) ∙ ending_append OnRange p (own n i s) (rest n i s ss) ∙ ap₂ ◌++◌ (squares_here OnRange p OnResidue n n (i + 1) s.brackets) (not_ranges p (n + 1) (i + length (print_spot s)) ss)

-- of residues with their brackets, and brackets xs on a range that ends at b
module _ (a b j : ℕ) (xs : List Inside) where
  abbrev on_range : Brackets
  on_range = map short_bracket (means_squares OnRange a b j xs)

  own_text_lem : (n i : ℕ) (s : Spot) (ss : List Spot) → good_spot s ≡ true → Each Fits (brackets_on n i (s ∷ ss))
      → own_text (spotted n i (s ∷ ss) ++ on_range) n ≡ print_squares (plain_insides s.brackets)
  own_text_lem n i s ss f w =
      let e = n + length ss in
      let here = squares_here OnResidue n OnResidue n n (i + 1) s.brackets ∙ pick_true (eqb n n) _ _ (eq-eqb n n refl) in
      let behind = ending_off OnResidue n (n + 1) e (λ u v. omega arith) (rest n i s ss) (ends_short (n + 1) e (rest_at n i s ss) (spots_end (n + 1) e (n + 1) _ ss (omega arith) (omega arith))) in
      ap (λ ks. own_text (ks ++ on_range) n) (spotted_cons n i s ss)
      ∙ ap (flat square_text)
      (ending_append OnResidue n (own n i s ++ rest n i s ss) on_range
      ∙ ap₂ ◌++◌ (ending_append OnResidue n (own n i s) (rest n i s ss) ∙ ap₂ ◌++◌ here behind) (squares_here OnResidue n OnRange a b j xs)
      ∙ simp append-nil)
      ∙ (own_plain n i s ss f w).says

  range_text_lem : (n i : ℕ) (ss : List Spot) → n ≡ b → range_text (spotted n i ss ++ on_range) n ≡ flat square_text on_range
  range_text_lem n i ss e =
      let here = squares_here OnRange n OnRange a b j xs ∙ pick_true (eqb b n) _ _ (eq-eqb b n (sym e)) in
      ap (flat square_text) (ending_append OnRange n (spotted n i ss) on_range ∙ ap₂ ◌++◌ (not_ranges n n i ss) here)

  rest_text : (n i : ℕ) (s : Spot) (ss : List Spot) (rs : List (Residue ℕ)) → sequence_text (spotted n i (s ∷ ss) ++ on_range) (n + 1) rs ≡ sequence_text (rest n i s ss ++ on_range) (n + 1) rs
  rest_text n i s ss rs =
      ap (λ ks. sequence_text (ks ++ on_range) (n + 1) rs) (spotted_cons n i s ss)
      ∙ ap (λ ks. sequence_text ks (n + 1) rs) (append_assoc (own n i s) _ on_range)
      ∙ front_off (n + 1) rs _ n n (own n i s) (ends_short n n (own_at n i s) (squares_end n n OnResidue n n (i + 1) s.brackets (omega arith) (omega arith))) (omega arith)

  group_text : (first next : Section) (n i : ℕ) (s : Spot) (ss : List Spot) → (none? ss ≡ false → Group first next) → n + length ss ≡ b → all good_spot (s ∷ ss) ≡ true
      → Each Fits (brackets_on n i (s ∷ ss))
      → sequence_text (spotted n i (s ∷ ss) ++ on_range) n (residues_on first next i s ss) ≡ opening first ++ (flat print_spot (map plain_spot (s ∷ ss)) ++ ending first (flat square_text on_range))
  unfolding all flat along
  group_text first next n i s [] g e f w =
      text_last _ n (residue_of first i s)
      ∙ ap₂ (λ o r. opening first ++ (upper s.letter ∷ (o ++ ending first r))) (own_text_lem n i s [] (and_left (good_spot s) _ f) w) (range_text_lem n i (s ∷ []) (omega arith))
      ∙ simp append_assoc
  group_text first next n i s (q ∷ ss) g e f w =
      let at = i + length (print_spot s) in
      let h = g refl in
      text_on _ n (residue_of first i s) (residues_on next next at q ss) h.0
      ∙ ap₂ (λ o r. opening first ++ (upper s.letter ∷ (o ++ r))) (own_text_lem n i s (q ∷ ss) (and_left (good_spot s) _ f) w)
      (rest_text n i s (q ∷ ss) (residues_on next next at q ss)
      ∙ group_text next next (n + 1) at q ss (λ u. (h.0, h.1, refl)) (omega arith) (and_right (good_spot s) _ f) (fits_spot n i s (q ∷ ss) w).1
      ∙ ap₂ (λ o t. o ++ (flat print_spot (map plain_spot (q ∷ ss)) ++ t)) h.1 (ap (λ (z : List ℕ → List ℕ). z (flat square_text on_range)) h.2))
      ∙ ap (λ l. opening first ++ (upper s.letter ∷ l)) (sym (append_assoc (print_squares (plain_insides s.brackets)) (flat print_spot (map plain_spot (q ∷ ss))) _))

-- ---- one element, behind n residues
abbrev OneElement : ℕ → ℕ → Element → Type 0
OneElement n i e =
    Spelt (good_element (plain_element e)) (sequence_text (map short_bracket (brackets_in n i e)) (n + 1) (residues_in i e)) (print_element (plain_element e)) (print_element e)
    (map short_bracket (brackets_in n i e))
    (λ j. brackets_in n j (plain_element e))

element_plain : (n i : ℕ) (e : Element) → good_element e ≡ true → Each Fits (brackets_in n i e) → OneElement n i e
unfolding all along
element_plain n i (single s) f w =
    let spots = spots_plain (n + 1) i (s ∷ []) (both _ true f refl) w in
    record {
      fine = and_left _ true spots.fine;
      says = ap (λ ks. sequence_text ks (n + 1) (residues_in i (single s))) (sym (append-nil _))
          ∙ group_text (n + 1) (n + 1) 0 [] Plain Plain (n + 1) i s [] (λ u. absurd (true≢false u)) (add-zero (n + 1)) (both _ true f refl) w ∙ append-nil _ ∙ flat_one print_spot (plain_spot s);
      same = spots.same;
      short = omega (arith, flat_one_length print_spot (plain_spot s), flat_one_length print_spot s, spots.short);
    }
element_plain n i (range s ss x xs) f w =
    let last = n + 1 + length ss in
    let at = i + 1 + length (flat print_spot (s ∷ ss)) + 1 in
    let good = both_of (all good_spot (s ∷ ss)) (good_squares false (x ∷ xs)) f in
    let fits = each_front Fits (brackets_on (n + 1) (i + 1) (s ∷ ss)) _ w in
    let spots = spots_plain (n + 1) (i + 1) (s ∷ ss) good.0 fits in
    let on = squares_plain false OnRange (n + 1) last at (x ∷ xs) good.1 (each_back Fits (brackets_on (n + 1) (i + 1) (s ∷ ss)) _ w) in
    let split = map-append short_bracket (brackets_on (n + 1) (i + 1) (s ∷ ss)) (means_squares OnRange (n + 1) last at (x ∷ xs)) in
    spelt_as (spelt_led open_round (spelt_append (λ k. k + length (flat print_spot (map plain_spot (s ∷ ss)))) spots (spelt_led shut_round on)))
    (ap (λ ks. sequence_text ks (n + 1) (residues_in i (range s ss x xs))) split
    ∙ group_text (n + 1) last at (x ∷ xs) RangeFirst RangeNext (n + 1) (i + 1) s ss (λ u. (refl, refl, refl)) refl good.0 fits)
    split (λ j. ap (λ m. brackets_on (n + 1) (j + 1) (map plain_spot (s ∷ ss)) ++ means_squares OnRange (n + 1) (n + 1 + m) (j + 1 + length (flat print_spot (map plain_spot (s ∷ ss))) + 1) (plain_insides (x ∷ xs))) (sym (length-map ss plain_spot)))
element_plain n i (unsure s ss) f w =
    spelt_as (spelt_led open_round (spelt_led question (spelt_closed shut_round (spots_plain (n + 1) (i + 1 + 1) (s ∷ ss) f w))))
    (ap (λ ks. sequence_text ks (n + 1) (residues_in i (unsure s ss))) (sym (append-nil _))
    ∙ group_text (n + 1) (n + 1 + length ss) 0 [] UnsureFirst UnsureNext (n + 1) (i + 1 + 1) s ss (λ u. (refl, refl, refl)) refl f w)
    refl (λ j. refl)

-- ---- the elements, one behind another
begins : (i : ℕ) (es : List Element) → goes_on (each_along print_element residues_in i es) ≡ false
unfolding each_along
begins i [] = refl
begins i (single s ∷ es) = refl
begins i (range s ss x xs ∷ es) = refl
begins i (unsure s ss ∷ es) = refl

split_text : (n i : ℕ) (e : Element) (es : List Element)
    → sequence_text (map short_bracket (brackets_along n i (e ∷ es))) (n + 1) (each_along print_element residues_in i (e ∷ es))
    ≡ sequence_text (map short_bracket (brackets_in n i e)) (n + 1) (residues_in i e)
    ++ sequence_text (map short_bracket (brackets_along (n + length (residues_in i e)) (i + length (print_element e)) es)) (n + length (residues_in i e) + 1)
    (each_along print_element residues_in (i + length (print_element e)) es)
unfolding brackets_along each_along
split_text n i e es =
    let rs = residues_in i e in
    let m = n + length rs in
    let qs = each_along print_element residues_in (i + length (print_element e)) es in
    let front = map short_bracket (brackets_in n i e) in
    let behind = map short_bracket (brackets_along m (i + length (print_element e)) es) in
    let next : n + 1 + length rs ≡ m + 1 = omega arith in
    ap (λ ks. sequence_text ks (n + 1) (rs ++ qs)) (map-append short_bracket (brackets_in n i e) (brackets_along m (i + length (print_element e)) es))
    ∙ sequence_append (front ++ behind) (n + 1) rs qs (begins _ es)
    ∙ ap₂ ◌++◌ (back_off (n + 1) rs front (m + 1) (m + length qs) behind (ends_short (m + 1) (m + length qs) (brackets_along m (i + length (print_element e)) es) (sequence_ends (m + 1) (m + length qs) m _ es (omega arith) (omega arith))) (omega arith))
    (ap (λ p. sequence_text (front ++ behind) p qs) next ∙ front_off (m + 1) qs behind (n + 1) m front (ends_short (n + 1) m (brackets_in n i e) (element_ends (n + 1) m n i e (omega arith) (omega arith))) (omega arith))

pub sequence_plain : (n i : ℕ) (es : List Element) → all good_element es ≡ true → Each Fits (brackets_along n i es)
    → Spelt (all good_element (map plain_element es)) (sequence_text (map short_bracket (brackets_along n i es)) (n + 1) (each_along print_element residues_in i es)) (flat print_element (map plain_element es))
    (flat print_element es) (map short_bracket (brackets_along n i es)) (λ j. brackets_along n j (map plain_element es))
unfolding all flat brackets_along each_along sequence_text
sequence_plain n i [] f w = spelt_none
sequence_plain n i (e ∷ es) f w =
    let behind = brackets_along (n + length (residues_in i e)) (i + length (print_element e)) es in
    let one = element_plain n i e (and_left (good_element e) _ f) (each_front Fits (brackets_in n i e) behind w) in
    let more = sequence_plain (n + length (residues_in i e)) (i + length (print_element e)) es (and_right (good_element e) _ f) (each_back Fits (brackets_in n i e) behind w) in
    spelt_as (spelt_append (λ j. j + length (print_element (plain_element e))) one more) (split_text n i e es) (map-append short_bracket (brackets_in n i e) behind)
    (λ j. rw (same_length bare_residue (residues_in j (plain_element e)) (residues_in i e) (element_residues i j e)))
