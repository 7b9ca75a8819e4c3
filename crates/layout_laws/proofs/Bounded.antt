-- The areas of a line keep to the bounds, and each of their bytes is one: what stands in a row is what the bracket holds (LayoutLaws), which is within the limits.
use Rattle.std.specs.Prelude.{◌≡◌, ℤ, pos, get_or}
use Rattle.std.proofs.Common.{sym, ap, subst, inl, inr, add-zero, zero-add, lit<}
use Rattle.std.proofs.Math.Option.{Option, none, some}
use mathlib.Core.List.{List, [], ◌∷◌, ◌++◌, map}
use Prim.Native.Nat.{ℕ, zero, suc, ◌+◌, ◌*◌, ◌≤◌, ◌<◌}
use native.Mathlib.Omega.{arith}
use Rattle.std.proofs.Math.ListN.{length, length-append}
use Rattle.scope.specs.declared.grammar.Section.{Section}
use Rattle.scope.specs.declared.grammar.Section.TheVariants.{Plain, RangeFirst, RangeNext, UnsureFirst, UnsureNext}
use Rattle.scope.specs.declared.grammar.Key.{Key}
use Rattle.scope.specs.Bytes.{byte_limit}
use Rattle.scope.specs.Limits.{line_limit, residue_limit, bracket_limit, part_limit, place_limit, text_limit, label_limit, decimal_limit}
use Rattle.scope.specs.Line.{Number, Label, Value, mass, text, reference, composition, Part, Bracket, Line}
use Rattle.scope.specs.Keys.{key_code}
use Rattle.scope.specs.Lists.{given, flat, padded}
use Rattle.scope.specs.Refusals.{text_in, text_of}
use Rattle.scope.specs.Tables.{millionths, label_of, score_of}
use Rattle.scope.specs.Layout.{part_size, row_size, two_bytes, counts_row, section_code, value_code, mass_in, decimals_in, packed, offset, part_row, part_rows, score_code, places_row, bracket_row, bracket_texts, rows, bytes_of, numbers_of, residues_field}
use Rattle.areas.specs.Bounds.{Small, PartBounds, BracketBounds, Bounds}
use Rattle.basics.specs.Each.{Each, OfGiven, each_append, each_padded, each_map, each_all}
use Rattle.basics.specs.Kinds.{kind_byte}
use Rattle.accepted_laws.specs.Within.{Byte, NumberWithin, LabelWithin, ValueWithin, KeyWithin, PartWithin, BracketWithin, Within, first_few, last_few}
use Rattle.layout_laws.specs.TwoBytes.{wide_bytes}
use Rattle.layout_laws.proofs.Fits.{residues_fit, positions_fit, offsets_fit, brackets_fit, parts_fit, places_fit, counts_fit, decimals_fit, scores_fit, texts_fit, labels_fit}
use Rattle.layout_laws.proofs.Numbers.{few_decimals, small}
use Rattle.layout_laws.proofs.LayoutLaws.{PartRead, PartsRead, BracketIn, BracketsRead, score_within, areas_read, bytes_length, numbers_length, head_of}

-- ---- what a part holds is small
module _ {P : Type 0} where
  decimals_few : (p : Part P) (v : Value P) → ValueWithin p v → decimals_in v ≤ decimal_limit
  decimals_few p (mass n) w = few_decimals n w
  decimals_few p (text t) w = omega arith
  decimals_few p reference w = omega arith
  decimals_few p (composition t n) w = few_decimals n w.mass

  text_short : (p : Part P) (v : Value P) → ValueWithin p v → length (text_in v) ≤ text_limit
  text_short p (mass n) w = omega arith
  text_short p (text t) w = w.short_text_lem
  text_short p reference w = omega arith
  text_short p (composition t n) w = w.text.short_text_lem

  label_short : (l : Option (Label P)) → OfGiven LabelWithin l → length (given l (λ l. l.name) []) ≤ label_limit
  label_short none w = omega arith
  label_short (some l) w = w.short_name

  mass_small : (p : Part P) (v : Value P) → ValueWithin p v → Small (mass_in v)
  mass_small p (mass n) w = small n w
  mass_small p (text t) w = lit< tt
  mass_small p reference w = lit< tt
  mass_small p (composition t n) w = small n w.mass

  score_small : (s : Option (Number P)) → OfGiven NumberWithin s → Small (given s millionths (pos 0))
  score_small none w = lit< tt
  score_small (some n) w = small n w

  score_few : (s : Option (Number P)) → OfGiven NumberWithin s → score_code s ≤ decimal_limit + 1
  score_few none w = omega arith
  score_few (some n) w = let h : n.decimals ≤ decimal_limit = few_decimals n w in omega arith

offset_few : (l : List ℕ) (i : ℕ) → offset l i ≤ i
offset_few [] i = omega arith
offset_few (b ∷ l) i = omega arith

-- ---- the bounds
module _ {P : Type 0} (bs : List ℕ) (ns : List ℤ) where
  part_bounds : (k j i : ℕ) (p : Part P) → PartWithin p → PartRead bs ns k j i p → i + length (packed p) ≤ line_limit → PartBounds bs ns k j
  part_bounds k j i p w r h =
      let o = offset_few (packed p) i in
      let e = length-append (text_of p) (label_of p) in
      record {
        few_decimals = rw r.decimals (decimals_few p p.value w.value);
        short_text_lem = rw r.text_length_is (text_short p p.value w.value);
        short_label = rw r.label_length_is (label_short p.label w.label);
        inside = rw (r.from, r.text_length_is, r.label_length_is) (omega arith);
        small = rw r.number (mass_small p p.value w.value);
      }

  parts_bounds :
      (k j i : ℕ) (ps : List (Part P)) → Each PartWithin ps → PartsRead bs ns k j i ps → i + length (flat packed ps) ≤ line_limit →
      (x : ℕ) → x < length ps → PartBounds bs ns k (j + x)
  unfolding flat
  parts_bounds k j i [] w r h x lt = absurd (omega arith)
  parts_bounds k j i (p ∷ ps) w r h zero lt =
      let e = length-append (packed p) (flat packed ps) in
      rw (add-zero j) (part_bounds k j i p w.0 r.0 (omega arith))
  parts_bounds k j i (p ∷ ps) w r h (suc x) lt =
      let e = length-append (packed p) (flat packed ps) in
      let s : j + suc x ≡ j + 1 + x = omega arith in
      rw s (parts_bounds k (j + 1) (i + length (packed p)) ps w.1 r.1 (omega arith) x (omega arith))

  bracket_bounds :
      (n k i : ℕ) (b : Bracket P) → residues_field bs ≡ n → BracketWithin n b → BracketIn bs ns k i b → i + length (bracket_texts b) ≤ line_limit
      → BracketBounds bs ns k
  bracket_bounds n k i b e w r h =
      record {
        first = rw (e, r.first) (first_few b.kind b.first b.last n w.stands);
        last = rw (e, r.last) (last_few b.kind b.first b.last n w.stands);
        some_count = rw r.count w.some_count;
        few_counts = rw r.count w.few_counts;
        few_parts_lem = rw r.many w.few_parts_lem;
        few_places = rw r.places.many_read w.few_places;
        score = rw r.score (score_few (score_of b.parts) (score_within b.parts w.parts));
        small = rw r.number (score_small (score_of b.parts) (score_within b.parts w.parts));
        part = λ j lt. subst (λ z. PartBounds bs ns k z) (zero-add j) (parts_bounds k 0 i b.parts w.parts r.parts h j (rw r.many at lt));
      }

  brackets_bounds :
      (n k i : ℕ) (ks : List (Bracket P)) → residues_field bs ≡ n → Each (BracketWithin n) ks → BracketsRead bs ns k i ks → i + length
      (flat bracket_texts ks) ≤ line_limit
      → (x : ℕ) → x < length ks → BracketBounds bs ns (k + x)
  unfolding flat
  brackets_bounds n k i [] q w r h x lt = absurd (omega arith)
  brackets_bounds n k i (b ∷ ks) q w r h zero lt =
      let e = length-append (bracket_texts b) (flat bracket_texts ks) in
      rw (add-zero k) (bracket_bounds n k i b q w.0 r.0 (omega arith))
  brackets_bounds n k i (b ∷ ks) q w r h (suc x) lt =
      let e = length-append (bracket_texts b) (flat bracket_texts ks) in
      let s : k + suc x ≡ k + 1 + x = omega arith in
      rw s (brackets_bounds n (k + 1) (i + length (bracket_texts b)) ks q w.1 r.1 (omega arith) x (omega arith))

module _ {P : Type 0} (l : Line P) (within : Within l) where
  pub bounds : (w : List ℕ) (v : List ℤ) → Bounds (bytes_of l ++ w) (numbers_of l ++ v)
  bounds w v =
      let r = areas_read l within w v in
      let a = bytes_length l within in
      let b = numbers_length l within in
      let c = length-append (bytes_of l) w in
      let d = length-append (numbers_of l) v in
      let t = within.texts in
      record {
        bytes_room = omega arith;
        numbers_room = omega arith;
        some_residue = rw r.residues_many within.some_residue;
        few_residues = rw r.residues_many within.few_residues;
        few_brackets_lem = rw r.brackets_many within.few_brackets_lem;
        bracket =
            λ k lt.
            subst (λ z. BracketBounds (bytes_of l ++ w) (numbers_of l ++ v) z) (zero-add k)
            (brackets_bounds (bytes_of l ++ w) (numbers_of l ++ v) (length l.residues) 0 0 l.brackets r.residues_many within.brackets
            r.brackets (omega arith) k (rw r.brackets_many at lt));
      }

-- ---- bytes
section_byte : (s : Section) → Byte (section_code s)
section_byte Plain = omega arith
section_byte RangeFirst = omega arith
section_byte RangeNext = omega arith
section_byte UnsureFirst = omega arith
section_byte UnsureNext = omega arith

zero_byte : Byte 0
zero_byte = omega arith

key_byte : (k : Key) → KeyWithin k → Byte (key_code k)
key_byte k (inl h) = omega arith
key_byte k (inr e) = let c = ap key_code e in omega arith

module _ {P : Type 0} where
  value_byte : (v : Value P) → Byte (value_code v)
  value_byte (mass n) = omega arith
  value_byte (text t) = omega arith
  value_byte reference = omega arith
  value_byte (composition t n) = omega arith

  text_bytes : (p : Part P) (v : Value P) → ValueWithin p v → Each Byte (text_in v)
  text_bytes p (mass n) w = tt
  text_bytes p (text t) w = w.bytes
  text_bytes p reference w = tt
  text_bytes p (composition t n) w = w.text.bytes

  label_bytes : (l : Option (Label P)) → OfGiven LabelWithin l → Each Byte (given l (λ l. l.name) [])
  label_bytes none w = tt
  label_bytes (some l) w = w.bytes

  packed_bytes : (ps : List (Part P)) → Each PartWithin ps → Each Byte (flat packed ps)
  unfolding flat
  packed_bytes [] w = tt
  packed_bytes (p ∷ ps) w =
      each_append Byte (packed p) (flat packed ps)
      (each_append Byte (text_of p) (label_of p) (text_bytes p p.value w.0.value) (label_bytes p.label w.0.label))
      (packed_bytes ps w.1)

  part_row_bytes : (i : ℕ) (p : Part P) → i ≤ line_limit → PartWithin p → Each Byte (part_row i p)
  part_row_bytes i p h w =
      let o = offset_few (packed p) i in (
        value_byte p.value,
        (
          key_byte p.key w.key,
          (
            decimals_fit (decimals_few p p.value w.value),
            (
              texts_fit (text_short p p.value w.value),
              (
                labels_fit (label_short p.label w.label),
                wide_bytes (offset (packed p) i) (offsets_fit (omega arith)),
              ),
            ),
          ),
        ),
      )

  part_rows_bytes : (i : ℕ) (ps : List (Part P)) → i + length (flat packed ps) ≤ line_limit → Each PartWithin ps → Each Byte (part_rows i ps)
  unfolding part_rows flat
  part_rows_bytes i [] h w = tt
  part_rows_bytes i (p ∷ ps) h w =
      let e = length-append (packed p) (flat packed ps) in
      each_append Byte (part_row i p) (part_rows (i + length (packed p)) ps)
      (part_row_bytes i p (omega arith) w.0)
      (part_rows_bytes (i + length (packed p)) ps (omega arith) w.1)

  head_bytes : (n : ℕ) (b : Bracket P) → n ≤ residue_limit → BracketWithin n b → Each Byte (head_of b)
  head_bytes n b q w =
      let counted = b.count ∷ length b.parts ∷ score_code (score_of b.parts) ∷ [] in
      let first-wide = positions_fit q (first_few b.kind b.first b.last n w.stands) in
      let last-wide = positions_fit q (last_few b.kind b.first b.last n w.stands) in
      let score-low = score_few (score_of b.parts) (score_within b.parts w.parts) in (
        kind_byte b.kind,
        each_append Byte (two_bytes b.first) (two_bytes b.last ++ counted) (wide_bytes b.first first-wide)
            (each_append Byte (two_bytes b.last) counted (wide_bytes b.last last-wide)
            (counts_fit w.few_counts, (parts_fit w.few_parts_lem, (scores_fit score-low, tt)))),
      )

  bracket_row_bytes : (n i : ℕ) (b : Bracket P) → n ≤ residue_limit → i + length (bracket_texts b) ≤ line_limit → BracketWithin n b → Each Byte (bracket_row i b)
  bracket_row_bytes n i b q h w =
      let parts = padded 0 (part_limit * part_size) (part_rows i b.parts) in
      each_append Byte (head_of b) (parts ++ places_row b.places) (head_bytes n b q w)
      (each_append Byte parts (places_row b.places)
      (each_padded Byte 0 (part_limit * part_size) (part_rows i b.parts) zero_byte (part_rows_bytes i b.parts h w.parts)) (
        places_fit w.few_places,
        each_padded Byte 0 place_limit (map (λ p. p.site) b.places) zero_byte (each_map Byte (λ p. p.site) b.places w.sites),
      ))

  rows_bytes :
      (n i : ℕ) (ks : List (Bracket P)) → n ≤ residue_limit → i + length (flat bracket_texts ks) ≤ line_limit → Each (BracketWithin n) ks → Each Byte (rows i ks)
  unfolding rows flat
  rows_bytes n i [] q h w = tt
  rows_bytes n i (b ∷ ks) q h w =
      let e = length-append (bracket_texts b) (flat bracket_texts ks) in
      each_append Byte (bracket_row i b) (rows (i + length (bracket_texts b)) ks)
      (bracket_row_bytes n i b q (omega arith) w.0)
      (rows_bytes n (i + length (bracket_texts b)) ks q (omega arith) w.1)

  texts_bytes : (n : ℕ) (ks : List (Bracket P)) → Each (BracketWithin n) ks → Each Byte (flat bracket_texts ks)
  unfolding flat
  texts_bytes n [] w = tt
  texts_bytes n (b ∷ ks) w = each_append Byte (bracket_texts b) (flat bracket_texts ks) (packed_bytes b.parts w.0.parts)
      (texts_bytes n ks w.1)

  pub bytes_are_bytes : (l : Line P) → Within l → Each Byte (bytes_of l)
  unfolding bytes_of
  bytes_are_bytes l w =
      let n = length l.residues in
      let counts = counts_row n (length l.brackets) in
      let letters = padded 0 residue_limit (map (λ r. r.letter) l.residues) in
      let sections = padded 0 residue_limit (map (λ r. section_code r.section) l.residues) in
      let brackets = padded 0 (bracket_limit * row_size) (rows 0 l.brackets) in
      let texts = padded 0 line_limit (flat bracket_texts l.brackets) in
      each_append Byte counts (letters ++ (sections ++ (brackets ++ texts)))
      (each_append Byte (two_bytes n) (length l.brackets ∷ []) (wide_bytes n (residues_fit w.few_residues)) (brackets_fit w.few_brackets_lem, tt))
      (each_append Byte letters (sections ++ (brackets ++ texts))
      (each_padded Byte 0 residue_limit (map (λ r. r.letter) l.residues) zero_byte (each_map Byte (λ r. r.letter) l.residues w.letters))
      (each_append Byte sections (brackets ++ texts)
      (each_padded Byte 0 residue_limit (map (λ r. section_code r.section) l.residues) zero_byte
      (each_map Byte (λ r. section_code r.section) l.residues
      (each_all (λ r. Byte (section_code r.section)) l.residues (λ r. section_byte r.section))))
      (each_append Byte brackets texts
      (each_padded Byte 0 (bracket_limit * row_size) (rows 0 l.brackets) zero_byte
      (rows_bytes n 0 l.brackets w.few_residues (subst (λ m. m ≤ line_limit) (sym (zero-add (length (flat bracket_texts l.brackets)))) w.texts)
      w.brackets))
      (each_padded Byte 0 line_limit (flat bracket_texts l.brackets) zero_byte (texts_bytes n l.brackets w.brackets)))))

each_at : (l : List ℕ) → Each Byte l → (i : ℕ) → get_or l i 0 < byte_limit
each_at [] h i = zero_byte
each_at (x ∷ l) h zero = h.0
each_at (x ∷ l) h (suc i) = each_at l h.1 i

pub byte_below : {P : Type 0} (l : Line P) → Within l → (i : ℕ) → get_or (bytes_of l) i 0 < byte_limit
byte_below l w i = each_at (bytes_of l) (bytes_are_bytes l w) i
