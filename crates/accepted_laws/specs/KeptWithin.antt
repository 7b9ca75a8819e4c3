-- What is kept of a line is within the bounds where the line is, and its texts are no longer.
use Rattle.std.specs.Prelude.{◌≡◌, refl, Bool, true, false, not, cond, ◌&&◌, List, [], ◌∷◌, map, ℕ, ◌*◌, ◌^◌, ◌≤◌, ◌<◌, eqb, leb, ltb}
use Rattle.std.proofs.Common.{sym, ◌∙◌, true≢false, arith, length-append, eqb-true, lt-ltb, leb-true}
use Rattle.std.proofs.Math.Path.{ap, subst}
use Rattle.std.proofs.Math.ListN.{length, length-map}
use Rattle.scope.specs.declared.grammar.Key.TheVariants.{Glycan}
use Rattle.scope.specs.Bytes.{is_printable, is_opening, is_shutting, bar, hash}
use Rattle.scope.specs.Limits.{copy_limit, decimal_limit, size_limit}
use Rattle.scope.specs.Line.{Value, mass, text, reference, composition, Part, Bracket, Line}
use Rattle.scope.specs.Keys.{key_code, key_in}
use Rattle.scope.specs.Content.{is_reference}
use Rattle.scope.specs.Lists.{all, flat}
use Rattle.scope.specs.Grammar.{plain_byte, outer_byte}
use Rattle.scope.specs.Modifications.{is_key}
use Rattle.scope.specs.Glycans.{Item, mass_decimals, cuttings, short_text, cutting_mass}
use Rattle.scope.specs.Kept.{composition_mass, cut_as, cut_value, kept_part, kept_bracket, kept}
use Rattle.scope.specs.Kinds.{is_declared}
use Rattle.scope.specs.Refusals.{text_in, text_of, declarations}
use Rattle.scope.specs.Tables.{label_of}
use Rattle.scope.specs.Layout.{packed, bracket_texts}
use Rattle.scope.specs.Positions.{floaters}
use Rattle.basics.specs.Each.{Each, each_map, each_one}
use Rattle.basics.specs.Keys.{key_back}
use Rattle.basics.specs.Lists.{keep_map}
use Rattle.basics.specs.Tests.{and_left, and_right, both}
use Rattle.reading_laws.proofs.Compositions.{likewise_kept, names_kept, floaters_kept}
use Rattle.glycan_laws.specs.Laws.{Cuts}
use Rattle.glycan_laws.proofs.Masses.{no_longer, small}
use Rattle.glycan_laws.proofs.Written.{first_cut, not_empty, plain}
use Rattle.accepted_laws.specs.Within.{Byte, NumberWithin, TextWithin, ValueWithin, PartWithin, BracketWithin, Within}

-- ---- compositions
plain_byte_lem : (b : ℕ) → outer_byte false b ≡ true → Byte b
plain_byte_lem b e =
    let plain = and_left (plain_byte b) (not (eqb b bar)) (and_left (plain_byte b && not (eqb b bar)) (not (eqb b hash)) e) in
    let printable = and_left (is_printable b) (not (is_opening b)) (and_left (is_printable b && not (is_opening b)) (not (is_shutting b)) plain) in
    omega (arith, leb-true b 126 (and_right (leb 32 b) (leb b 126) printable))

plain_bytes : (t : List ℕ) → all (outer_byte false) t ≡ true → Each Byte t
unfolding all
plain_bytes [] e = tt
plain_bytes (b ∷ t) e = (plain_byte_lem b (and_left (outer_byte false b) (all (outer_byte false) t) e), plain_bytes t (and_right (outer_byte false b) (all (outer_byte false) t) e))

some_length : (t : List ℕ) → (t ≡ [] → ⊥) → 0 < length t
some_length [] h = absurd (h refl)
some_length (b ∷ t) h = omega arith

short_within : (t : List ℕ) (xs : List Item) → Cuts xs t → TextWithin t → TextWithin (short_text xs)
short_within t xs c w =
    record {
      some_text = some_length (short_text xs) (λ e. let z = ap length (not_empty t xs c e) in let h = w.some_text in omega arith);
      short_text_lem = omega (arith, w.short_text_lem, no_longer t xs c);
      bytes = plain_bytes (short_text xs) (plain t xs c);
    }

flat_short : {A : Type 0} (f : A → List ℕ) (g : A → A) → ((x : A) → length (f (g x)) ≤ length (f x)) → (l : List A) → length (flat f (map g l)) ≤ length (flat f l)
unfolding flat
flat_short f g h [] = omega arith
flat_short f g h (x ∷ l) = omega (arith, h x, flat_short f g h l, length-append (f (g x)) (flat f (map g l)), length-append (f x) (flat f l))

module _ {P : Type 0} where
  mass_within : (at : P) (t : List ℕ) (xs : List Item) → Cuts xs t → TextWithin t → NumberWithin (composition_mass at xs)
  mass_within at t xs c w =
      record {
        range = both (leb mass_decimals decimal_limit) (ltb (cutting_mass xs) (size_limit * 10 ^ mass_decimals)) refl (lt-ltb (cutting_mass xs) (size_limit * 10 ^ mass_decimals) (small t xs c w.short_text_lem));
        sign = λ e. absurd (true≢false (sym e));
      }

  cut_within : (p q : Part P) → q.key ≡ Glycan → (t : List ℕ) → TextWithin t → (l : List (List Item)) → cuttings t ≡ l → ValueWithin q (cut_as p.at t l)
  cut_within p q k t w [] e = w
  cut_within p q k t w (xs ∷ l) e =
      let c = first_cut t xs l e in
      record { its_key = k; text = short_within t xs c w; mass = mass_within p.at t xs c w }

  value_within : (p : Part P) (v : Value P) → p.key ≡ Glycan → ValueWithin p v → ValueWithin (kept_part p) (cut_value p.at v)
  value_within p (mass n) k w = w
  value_within p (text t) k w = cut_within p (kept_part p) k t w (cuttings t) refl
  value_within p reference k w = record { no_key = w.no_key; labelled = w.labelled }
  value_within p (composition t n) k w = cut_within p (kept_part p) k t w.text (cuttings t) refl

  unchanged : (p : Part P) (v : Value P) → ValueWithin p v → ValueWithin (kept_part p) v
  unchanged p (mass n) w = w
  unchanged p (text t) w = w
  unchanged p reference w = record { no_key = w.no_key; labelled = w.labelled }
  unchanged p (composition t n) w = record { its_key = w.its_key; text = w.text; mass = w.mass }

  part_within : (p : Part P) → PartWithin p → PartWithin (kept_part p)
  part_within p w = record { key = w.key; value = go (is_key Glycan p) refl; label = w.label }
    where
      go : (b : Bool) → is_key Glycan p ≡ b → ValueWithin (kept_part p) (cond b (cut_value p.at p.value) p.value)
      go true e = value_within p p.value (sym (key_back p.key) ∙ ap key_in (eqb-true (key_code p.key) (key_code Glycan) e) ∙ key_back Glycan) w.value
      go false e = unchanged p p.value w.value

  bracket_within : (n : ℕ) (k : Bracket P) → BracketWithin n k → BracketWithin n (kept_bracket k)
  bracket_within n k w =
      let l = length-map k.parts kept_part in
      record {
        some_part = rw l w.some_part;
        few_parts_lem = rw l w.few_parts_lem;
        some_count = w.some_count;
        few_counts = w.few_counts;
        stands = w.stands;
        one_copy = w.one_copy;
        one_labelled = λ e. w.one_labelled (rw (names_kept k) at e);
        one_label = rw (names_kept k) w.one_label;
        parts = each_map PartWithin kept_part k.parts (each_one PartWithin (λ p. PartWithin (kept_part p)) part_within k.parts w.parts);
        few_places = w.few_places;
        sites = w.sites;
        lone =
            each_map (λ p. is_reference p.value ≡ true → length (map kept_part k.parts) ≡ 1) kept_part k.parts
            (each_one (λ p. is_reference p.value ≡ true → length k.parts ≡ 1)
            (λ p. is_reference (kept_part p).value ≡ true → length (map kept_part k.parts) ≡ 1)
            (λ p f e. l ∙ f (sym (likewise_kept.refers p) ∙ e)) k.parts w.lone);
      }

  -- ---- texts
  cut_short : (at : P) (t : List ℕ) (l : List (List Item)) → cuttings t ≡ l → length (text_in (cut_as at t l)) ≤ length t
  cut_short at t [] e = omega arith
  cut_short at t (xs ∷ l) e = no_longer t xs (first_cut t xs l e)

  value_short : (at : P) (v : Value P) → length (text_in (cut_value at v)) ≤ length (text_in v)
  value_short at (mass n) = omega arith
  value_short at (text t) = cut_short at t (cuttings t) refl
  value_short at reference = omega arith
  value_short at (composition t n) = cut_short at t (cuttings t) refl

  text_short : (p : Part P) → length (text_of (kept_part p)) ≤ length (text_of p)
  text_short p = go (is_key Glycan p)
    where
      go : (b : Bool) → length (text_in (cond b (cut_value p.at p.value) p.value)) ≤ length (text_in p.value)
      go true = value_short p.at p.value
      go false = omega arith

  packed_short : (p : Part P) → length (packed (kept_part p)) ≤ length (packed p)
  packed_short p = omega (arith, text_short p, length-append (text_of (kept_part p)) (label_of p), length-append (text_of p) (label_of p))

  pub texts_kept : (l : Line P) → length (flat bracket_texts (kept l).brackets) ≤ length (flat bracket_texts l.brackets)
  unfolding kept
  texts_kept l = flat_short bracket_texts kept_bracket (λ k. flat_short packed kept_part packed_short k.parts) l.brackets

  pub within_kept : (l : Line P) → Within l → Within (kept l)
  unfolding kept
  within_kept l w =
      let b = length-map l.brackets kept_bracket in
      let d = ap length (keep_map (λ k. is_declared k.kind) (λ k. is_declared k.kind) kept_bracket (λ k. refl) l.brackets) ∙ length-map (declarations l.brackets) kept_bracket in
      record {
        some_residue = w.some_residue;
        few_residues = w.few_residues;
        letters = w.letters;
        few_brackets_lem = rw b w.few_brackets_lem;
        few_declarations = rw d w.few_declarations;
        brackets =
            each_map (BracketWithin (length l.residues)) kept_bracket l.brackets
            (each_one (BracketWithin (length l.residues)) (λ k. BracketWithin (length l.residues) (kept_bracket k))
            (bracket_within (length l.residues)) l.brackets w.brackets);
        texts = omega (arith, texts_kept l, w.texts);
        few_copies = subst (λ z. z ≤ copy_limit) (sym (ap length (floaters_kept l) ∙ length-map (floaters l) kept_bracket)) w.few_copies;
      }
