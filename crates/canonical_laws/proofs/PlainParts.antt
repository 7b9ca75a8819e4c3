-- The parts of a bracket in their plain spelling: it is good, it is what the canonical line prints of them, it means the same parts at other places, with compositions
-- short, and it is no longer.
use Rattle.std.specs.Prelude.{ℕ, ◌+◌, ◌≤◌, ◌≡◌, refl, Bool, true, false, not, cond, ◌&&◌, ◌||◌, List, [], ◌∷◌, ◌++◌, map, eqb, length}
use Rattle.std.proofs.Common.{arith, sym, ap, ap₂, ◌∙◌, subst, true≢false, append_assoc, length-append, eqb-true, eq-eqb}
use Rattle.std.proofs.lemmas.Bool.{false≢true, not-true, not-false}
use Rattle.std.proofs.Math.Option.{Option, none, some}
use Rattle.basics.specs.Lists.{folded_length, not_due, nil_front, nil_back}
use Rattle.basics.specs.Choice.{pick_false, branch}
use Rattle.basics.specs.Keys.{key_back}
use Rattle.basics.specs.Tests.{both_of, falsely}
use Rattle.scope.specs.declared.grammar.Key.{Key}
use Rattle.scope.specs.declared.grammar.Key.TheVariants.{NoKey, Glycan}
use Rattle.scope.specs.Bytes.{open_round, shut_round, dash, bar, hash, upper, same_folded, is_alnum}
use Rattle.scope.specs.Canonical.{size, score_text, label_text, value_text, part_text, parts_text}
use Rattle.scope.specs.Content.{unlabelled}
use Rattle.scope.specs.Glycans.{Item, cuttings, short_text}
use Rattle.scope.specs.Kept.{cut_as}
use Rattle.scope.specs.Grammar.{some_of, good_numeral, means_numeral, sign_byte, Text, print_text, outer_byte, good_text, Word, good_word, print_word, keyless, Base, delta, code, wording, print_base, takes_mass, good_wording, good_base, key_in, value_in, Score, print_sign, is_minus, print_score, good_score, means_score, Tag, print_tag, good_tag, means_tag, Piece, print_piece, form_in, tag_fits, good_piece, means_piece, print_pieces, good_pieces, means_pieces, Inside, parts, refers, print_inside, good_inside, means_reference, means_inside}
use Rattle.scope.specs.Keys.{spell, Form, mass_or_name, mass_only, digits, alnums, free, composed, form, accession_byte, key_code, key_in as key_of_code, written}
use Rattle.scope.specs.Line.{Number, Value, mass, text, reference, Part}
use Rattle.scope.specs.Lists.{there?, none?, given, optional, all, flat}
use Rattle.scope.specs.Refusals.{in_range, wide, wide_mass, wide_score}
use Rattle.scope.specs.Tables.{bare_number, bare_label, bare_value, bare_part}
use Rattle.glycan_laws.proofs.Masses.{no_longer}
use Rattle.glycan_laws.proofs.Written.{first_cut, not_empty, plain as plain_bytes}
use Rattle.grammar_laws.proofs.Words.{colon_length, written_is}
use Rattle.canonical_laws.proofs.PlainNumbers.{numeral_good, numeral_text, numeral_means, front_short}
use Rattle.canonical_laws.proofs.Short.{worded, short_part}
use Rattle.canonical_laws.specs.Plainly.{digits_of, plain_numeral, plain_minus, plain_word, as_text, short_as, plain_text, plain_base, plain_score, plain_label, plain_piece, plain_inside}

abbrev wide_in : Part ℕ → List ℕ
wide_in p = wide_mass p.value ++ wide_score p

-- no mass and no score of the parts is out of range
abbrev pub Narrow : List (Part ℕ) → Type 0
Narrow ps = flat wide_in ps ≡ []

-- x, of which the canonical line prints the text, and which says so much, in its plain spelling y
record Plain {A M : Type 0} (good : A → Bool) (print : A → List ℕ) (means : ℕ → A → M) (said : M) (text : List ℕ) (x y : A) : Type 0 where
  pub fine : good y ≡ true
  pub prints : text ≡ print y
  pub same : (j : ℕ) → means j y ≡ said
  pub short : length (print y) ≤ length (print x)

in_range_lem : (n : Number ℕ) → wide n ≡ [] → in_range n ≡ true
in_range_lem n e = not-false (in_range n) (not_due (not (in_range n)) n.at e)

-- ---- key words
pub folded_self : (w : List ℕ) → same_folded w w ≡ true
unfolding same_folded
folded_self [] = refl
folded_self (b ∷ w) = rw (eq-eqb (upper b) (upper b) refl) (folded_self w)

word_short : (w : Word) → good_word w ≡ true → length (print_word (plain_word w)) ≤ length (print_word w)
word_short w e = omega (arith, colon_length (spell w.key) w.spelled (folded_length (spell w.key) w.spelled e))

keyless_same : (v w t : List ℕ) → same_folded v w ≡ true → keyless v t ≡ keyless w t
unfolding same_folded
keyless_same [] [] t e = refl
keyless_same [] (b ∷ w) t e = absurd (false≢true e)
keyless_same (a ∷ v) [] t e = absurd (false≢true e)
keyless_same (a ∷ v) (b ∷ w) t e = refl

wording_same : (f : Form) (v w : List ℕ) (t : Text) → keyless v (print_text t) ≡ keyless w (print_text t) → good_wording f v t ≡ good_wording f w t
wording_same mass_or_name v w t e = rw e
wording_same mass_only v w t e = refl
wording_same digits v w t e = refl
wording_same alnums v w t e = refl
wording_same free v w t e = refl
wording_same composed v w t e = refl

-- ---- compositions
text_prints : (l : List ℕ) → print_text (as_text l) ≡ l
unfolding print_text
text_prints [] = refl
text_prints (b ∷ l) = ap (λ t. b ∷ t) (text_prints l)

text_good : (f : ℕ → Bool) (l : List ℕ) → good_text f (as_text l) ≡ all f l
unfolding good_text all
text_good f [] = refl
text_good f (b ∷ l) = ap (λ t. f b && t) (text_good f l)

-- the text t behind a key, whose part has the value v with its composition short, in its plain spelling u
record Worded (w : Word) (t u : Text) (v : Value ℕ) : Type 0 where
  pub some_text : none? (print_text u) ≡ false
  pub fine : good_wording (form w.key) w.spelled u ≡ true
  pub says : v ≡ text (print_text u)
  pub short : length (print_text u) ≤ length (print_text t)

glycan : (k : Key) → eqb (key_code k) (key_code Glycan) ≡ true → k ≡ Glycan
glycan k e = sym (key_back k) ∙ ap key_of_code (eqb-true (key_code k) (key_code Glycan) e) ∙ key_back Glycan

some_bytes : (l : List ℕ) → (l ≡ [] → ⊥) → none? l ≡ false
some_bytes [] h = absurd (h refl)
some_bytes (b ∷ l) h = refl

worded_plain : (i : ℕ) (w : Word) (t : Text) → none? (print_text t) ≡ false → good_wording (form w.key) w.spelled t ≡ true
    → Worded w t (plain_text w.key t) (short_part (unlabelled i w.key (text (print_text t)))).value
worded_plain i w t n f = go (eqb (key_code w.key) (key_code Glycan)) refl
  where
    itself : Worded w t t (text (print_text t))
    itself = record { some_text = n; fine = f; says = refl; short = omega arith }

    cut : eqb (key_code w.key) (key_code Glycan) ≡ true → (l : List (List Item)) → cuttings (print_text t) ≡ l → Worded w t (short_as t l) (worded (cut_as i (print_text t) l))
    cut e [] q = itself
    cut e (xs ∷ l) q =
        let c = first_cut (print_text t) xs l q in
        let u = text_prints (short_text xs) in
        record {
          some_text = ap none? u ∙ some_bytes (short_text xs) (λ z. true≢false (sym (ap none? (not_empty (print_text t) xs c z)) ∙ n));
          fine = ap (λ k. good_wording (form k) w.spelled (as_text (short_text xs))) (glycan w.key e) ∙ text_good (outer_byte false) (short_text xs) ∙ plain_bytes (print_text t) xs c;
          says = ap text (sym u);
          short = subst (λ (z : List ℕ). length z ≤ length (print_text t)) (sym u) (no_longer (print_text t) xs c);
        }

    go : (b : Bool) → eqb (key_code w.key) (key_code Glycan) ≡ b
        → Worded w t (cond b (short_as t (cuttings (print_text t))) t) (cond b (worded (cut_as i (print_text t) (cuttings (print_text t)))) (text (print_text t)))
    go true e = cut e (cuttings (print_text t)) refl
    go false e = itself

-- a key of an accession is no composition's
not_cut : (k : Key) (t : List ℕ) → some_of (accession_byte (form k)) t ≡ true → eqb (key_code k) (key_code Glycan) ≡ false
unfolding all
not_cut k t e = falsely _ (λ g. none_so t (ap (λ z. some_of (accession_byte (form z)) t) (sym (glycan k g)) ∙ e))
  where
    none_so : (t : List ℕ) → some_of (λ b. false) t ≡ true → ⊥
    none_so [] q = false≢true q
    none_so (b ∷ t) q = false≢true q

-- ---- what a part says, its label apart
abbrev saying : ℕ → Base → Part (Unit {0})
saying i b = bare_part (means_piece i (record { base = b; tag = none }))

abbrev shortly : ℕ → Base → Part ℕ
shortly i b = short_part (unlabelled i (key_in b) (value_in i b))

base : (i : ℕ) (b : Base) → good_base b ≡ true → wide_mass (value_in i b) ≡ []
    → Plain good_base print_base saying (bare_part (shortly i b)) (written (key_in b) ++ value_text (shortly i b).value) b (plain_base b)
base i (delta w minus n) e narrow =
    let word = both_of (good_word w) (takes_mass (form w.key) && good_numeral n) e in
    let mass-good = both_of (takes_mass (form w.key)) (good_numeral n) word.1 in
    let at = i + length (print_word w) in
    let range = in_range_lem (means_numeral at minus n) narrow in
    let stays : (shortly i (delta w minus n)).value ≡ mass (means_numeral at minus n) =
    branch (λ (v : Value ℕ). v ≡ mass (means_numeral at minus n)) (eqb (key_code w.key) (key_code Glycan)) refl refl in
    record {
      fine = rw (folded_self (spell w.key), mass-good.0) (numeral_good at minus n mass-good.1 range);
      prints = ap (λ v. written w.key ++ value_text v) stays ∙ ap₂ (λ z l. z ++ (sign_byte (plain_minus minus n) ∷ l)) (written_is w.key) (numeral_text at minus n mass-good.1 range);
      same = λ j. ap (λ m. record { key = w.key; value = mass m; label = none; at = tt }) (numeral_means at minus n mass-good.1 range (j + length (print_word (plain_word w))))
          ∙ ap (λ v. record { key = w.key; value = bare_value v; label = none; at = tt }) (sym stays);
      short = simp length-append (omega (arith, word_short w word.0, front_short n mass-good.1));
    }
base i (code w t) e narrow =
    let word = both_of (good_word w) (some_of (accession_byte (form w.key)) t) e in
    let stays = pick_false (eqb (key_code w.key) (key_code Glycan)) (worded (cut_as i t (cuttings t))) (text t) (not_cut w.key t word.1) in
    record {
      fine = rw (folded_self (spell w.key)) word.1;
      prints = ap₂ (λ z v. z ++ value_text v) (written_is w.key) stays;
      same = λ j. ap (λ v. record { key = w.key; value = bare_value v; label = none; at = tt }) (sym stays);
      short = simp length-append (omega (arith, word_short w word.0));
    }
base i (wording w t) e narrow =
    let word = both_of (good_word w) (not (none? (print_text t)) && good_wording (form w.key) w.spelled t) e in
    let good = both_of (not (none? (print_text t))) (good_wording (form w.key) w.spelled t) word.1 in
    let u = plain_text w.key t in
    let plain = worded_plain i w t (not-true (none? (print_text t)) good.0) good.1 in
    record {
      fine =
          rw (folded_self (spell w.key), plain.some_text)
          (wording_same (form w.key) (spell w.key) w.spelled u (keyless_same (spell w.key) w.spelled (print_text u) word.0) ∙ plain.fine);
      prints = ap₂ (λ z v. z ++ value_text v) (written_is w.key) plain.says;
      same = λ j. ap (λ v. record { key = w.key; value = bare_value v; label = none; at = tt }) (sym plain.says);
      short = simp length-append (omega (arith, word_short w word.0, plain.short));
    }

-- ---- labels
sign_text_lem : (minus : Bool) (l r : List ℕ) → cond minus (dash ∷ l) l ++ r ≡ print_sign (cond minus (some true) none) ++ (l ++ r)
sign_text_lem true l r = refl
sign_text_lem false l r = refl

sign_kept : (minus : Bool) → is_minus (cond minus (some true) none) ≡ minus
sign_kept true = refl
sign_kept false = refl

sign_short : (sign : Option Bool) (b : Bool) → length (print_sign (cond (is_minus sign && b) (some true) none)) ≤ length (print_sign sign)
sign_short none b = omega arith
sign_short (some false) b = omega arith
sign_short (some true) false = omega arith
sign_short (some true) true = omega arith

score :
    (i : ℕ) (s : Option Score) → good_score s ≡ true → given (means_score i s) wide [] ≡ []
    → Plain good_score print_score (λ j s. optional bare_number (means_score j s)) (optional bare_number (means_score i s)) (given (means_score i s) (λ n. open_round ∷ (score_text n ++ (shut_round ∷ []))) []) s (plain_score s)
score i none e narrow = record { fine = refl; prints = refl; same = λ j. refl; short = omega arith }
score i (some s) e narrow =
    let minus = is_minus s.sign in
    let n = s.number in
    let range = in_range_lem (means_numeral (i + 1) minus n) narrow in
    record {
      fine = numeral_good (i + 1) minus n e range;
      prints =
          ap (λ l. open_round ∷ l)
          (sign_text_lem (plain_minus minus n) (size (means_numeral (i + 1) minus n)) (shut_round ∷ [])
          ∙ ap (λ l. print_sign (cond (plain_minus minus n) (some true) none) ++ (l ++ (shut_round ∷ []))) (numeral_text (i + 1) minus n e range));
      same = λ j. ap (λ m. some (bare_number (means_numeral (j + 1) m (plain_numeral n)))) (sign_kept (plain_minus minus n)) ∙ ap some (numeral_means (i + 1) minus n e range (j + 1));
      short = simp length-append (omega (arith, sign_short s.sign (not (eqb (digits_of n) 0)), front_short n e));
    }

tag :
    (i : ℕ) (t : Option Tag) → good_tag t ≡ true → given (means_tag i t) (λ l. given l.score wide []) [] ≡ []
    → Plain good_tag print_tag (λ j t. optional bare_label (means_tag j t)) (optional bare_label (means_tag i t)) (given (means_tag i t) label_text []) t (plain_label t)
tag i none e narrow = record { fine = refl; prints = refl; same = λ j. refl; short = omega arith }
tag i (some t) e narrow =
    let good = both_of (some_of is_alnum t.name) (good_score t.score) e in
    let s = score (i + 1 + length t.name) t.score good.1 narrow in
    record {
      fine = rw good.0 s.fine;
      prints = ap (λ l. hash ∷ (t.name ++ l)) s.prints;
      same = λ j. ap (λ n. some (record { name = t.name; score = n; at = tt })) (s.same (j + 1 + length t.name));
      short = simp length-append (omega (arith, s.short));
    }

-- ---- parts
there_same : (t : Option Tag) → there? (plain_label t) ≡ there? t
there_same none = refl
there_same (some t) = refl

piece :
    (labels : Bool) (i : ℕ) (p : Piece) → good_piece labels p ≡ true → wide_in (means_piece i p) ≡ []
    → Plain (good_piece labels) print_piece (λ j p. bare_part (means_piece j p)) (bare_part (short_part (means_piece i p))) (part_text (short_part (means_piece i p))) p (plain_piece p)
unfolding part_text
piece labels i p e narrow =
    let good = both_of (good_base p.base) (good_tag p.tag && (not (there? p.tag) || (labels && tag_fits (form_in p.base)))) e in
    let label = both_of (good_tag p.tag) (not (there? p.tag) || (labels && tag_fits (form_in p.base))) good.1 in
    let b = base i p.base good.0 (nil_front (wide_mass (value_in i p.base)) (wide_score (means_piece i p)) narrow) in
    let t = tag (i + length (print_base p.base)) p.tag label.0 (nil_back (wide_mass (value_in i p.base)) (wide_score (means_piece i p)) narrow) in
    record {
      fine = rw (b.fine, t.fine) (ap₂ (λ o k. not o || (labels && tag_fits (form k))) (there_same p.tag) (ap (λ q. q.key) (b.same 0)) ∙ label.1);
      prints = sym (append_assoc (written (key_in p.base)) (value_text (shortly i p.base).value) _) ∙ ap₂ ◌++◌ b.prints t.prints;
      same = λ j. ap₂ (λ q l. record { key = q.key; value = q.value; label = l; at = tt }) (b.same j) (t.same (j + length (print_base (plain_base p.base))));
      short = simp length-append (omega (arith, b.short, t.short));
    }

-- ---- brackets
more_text : (x : Part ℕ) (i : ℕ) (p : Piece) (ps : List Piece)
    → parts_text (x ∷ map short_part (means_pieces i p ps)) ≡ part_text x ++ (bar ∷ parts_text (map short_part (means_pieces i p ps)))
unfolding parts_text means_pieces
more_text x i p [] = refl
more_text x i p (q ∷ ps) = refl

abbrev PlainInside : Bool → Bool → ℕ → Inside → Type 0
PlainInside references labels i x =
    Plain (good_inside references labels) print_inside (λ j x. map bare_part (means_inside j x)) (map bare_part (map short_part (means_inside i x)))
    (parts_text (map short_part (means_inside i x))) x (plain_inside x)

pieces : (references labels : Bool) (i : ℕ) (p : Piece) (ps : List Piece) → good_pieces labels p ps ≡ true → Narrow (means_pieces i p ps) → PlainInside references labels i (parts p ps)
unfolding print_pieces good_pieces means_pieces parts_text flat
pieces references labels i p [] e narrow =
    let one = piece labels i p e (nil_front (wide_in (means_piece i p)) [] narrow) in
    record { fine = one.fine; prints = one.prints; same = λ j. ap (λ z. z ∷ []) (one.same j); short = one.short }
pieces references labels i p (q ∷ ps) e narrow =
    let good = both_of (good_piece labels p) (good_pieces labels q ps) e in
    let behind = i + length (print_piece p) + 1 in
    let first = piece labels i p good.0 (nil_front (wide_in (means_piece i p)) (flat wide_in (means_pieces behind q ps)) narrow) in
    let rest = pieces references labels behind q ps good.1 (nil_back (wide_in (means_piece i p)) (flat wide_in (means_pieces behind q ps)) narrow) in
    record {
      fine = rw first.fine rest.fine;
      prints = more_text (short_part (means_piece i p)) behind q ps ∙ ap₂ (λ l m. l ++ (bar ∷ m)) first.prints rest.prints;
      same = λ j. ap₂ ◌∷◌ (first.same j) (rest.same (j + length (print_piece (plain_piece p)) + 1));
      short = simp length-append (omega (arith, simp length-append at first.short, rest.short));
    }

inside : (references labels : Bool) (x : Inside) → good_inside references labels x ≡ true → (i : ℕ) → Narrow (means_inside i x) → PlainInside references labels i x
unfolding parts_text part_text written spell flat
inside references labels (parts p ps) e i narrow = pieces references labels i p ps e narrow
inside references labels (refers t) e i narrow =
    let good = both_of references (good_tag (some t)) e in
    let label = tag i (some t) good.1 (nil_front (wide_in (means_reference i t)) [] narrow) in
    record {
      fine = rw good.0 label.fine;
      prints = label.prints;
      same = λ j. ap (λ l. record { key = NoKey; value = reference; label = l; at = tt } ∷ []) (label.same j);
      short = label.short;
    }

module _ (references labels : Bool) (x : Inside) (fine : good_inside references labels x ≡ true) (i : ℕ) (narrow : Narrow (means_inside i x)) where
  plain : PlainInside references labels i x
  plain = inside references labels x fine i narrow

  pub plain_good : good_inside references labels (plain_inside x) ≡ true
  plain_good = plain.fine

  pub plain_text_lem : parts_text (map short_part (means_inside i x)) ≡ print_inside (plain_inside x)
  plain_text_lem = plain.prints

  pub plain_means : (j : ℕ) → map bare_part (means_inside j (plain_inside x)) ≡ map bare_part (map short_part (means_inside i x))
  plain_means j = plain.same j

  pub plain_short : length (print_inside (plain_inside x)) ≤ length (print_inside x)
  plain_short = plain.short
