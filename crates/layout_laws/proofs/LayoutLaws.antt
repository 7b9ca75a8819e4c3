-- The tables of a line lie in its areas: what is read there is what the line holds, without its places.
use Rattle.std.specs.Prelude.{◌≡◌, false, ℕ, ◌+◌, ◌-◌, ◌*◌, ◌≤◌, ◌<◌, eqb, ℤ, pos, replicate}
use Rattle.std.proofs.Math.Path.{refl, sym, ap, ap₂}
use Rattle.std.proofs.Common.{◌∙◌, ne_eqb}
use Rattle.std.proofs.Math.Option.{Option, none, some}
use mathlib.Core.List.{List, [], ◌∷◌, ◌++◌, map}
use native.Mathlib.Omega.{arith}
use Rattle.std.proofs.Math.ListN.{length, length-append}
use Rattle.std.proofs.lemmas.List.{length-replicate, length-map}
use Rattle.scope.specs.declared.grammar.Section.{Section}
use Rattle.scope.specs.declared.grammar.Section.TheVariants.{Plain, RangeFirst, RangeNext, UnsureFirst, UnsureNext}
use Rattle.scope.specs.Line.{Number, Label, Value, mass, text, reference, composition, Place, Part, Bracket, Residue, Line}
use Rattle.scope.specs.Keys.{key_code, key_in}
use Rattle.scope.specs.Lists.{given, flat, optional, padded, part, tabled}
use Rattle.scope.specs.Modifications.{name_of}
use Rattle.scope.specs.Refusals.{text_in, text_of}
use Rattle.scope.specs.Kinds.{kind_code, kind_in}
use Rattle.scope.specs.Tables.{bare_number, bare_label, bare_value, bare_part, bare_place, bare_bracket, bare_residue, tables_of, millionths, label_of, score_of}
use Rattle.scope.specs.Limits.{line_limit, residue_limit, bracket_limit, part_limit, place_limit}
use Rattle.scope.specs.Layout.{section_code, value_code, mass_in, decimals_in, packed, offset, part_row, part_rows, score_code, places_row, bracket_row, bracket_texts, rows, bytes_of, number_row, numbers_of, section_in, row_at, part_at, places_at, site_at, place_in, places_field, site_field, places_size, score_in, value_in, label_in, part_in, bracket_in, residue_in, tables_in, brackets_field, count_field, decimals_field, first_field, key_field, kind_field, label_field, last_field, offset_field, parts_field, residues_field, score_field, text_field, value_field, part_size, head_size, row_size, number_row_size, residues_at, letters_at, sections_at, rows_at, texts_at, bytes_size, numbers_size, mass_at, head_row, counts_row, mass_field, score_number, letter_field, section_field}
use Rattle.basics.specs.Each.{Each, OfGiven}
use Rattle.basics.specs.Keys.{key_back}
use Rattle.basics.specs.Kinds.{kind_back}
use Rattle.accepted_laws.specs.Within.{NumberWithin, LabelWithin, ValueWithin, PartWithin, BracketWithin, Within}
use Rattle.layout_laws.specs.At.{At, at_head, at_first, at_next, at_part, at_start}
use Rattle.layout_laws.proofs.Fields.{PlacesRead, counts_read, head_read, fields_read, places_read}
use Rattle.layout_laws.proofs.Numbers.{number_back}

-- ---- codes
section_back : (s : Section) → section_in (section_code s) ≡ s
section_back Plain = refl
section_back RangeFirst = refl
section_back RangeNext = refl
section_back UnsureFirst = refl
section_back UnsureNext = refl

-- ---- sizes of rows
pub padded_length : {A : Type 0} (z : A) (n : ℕ) (l : List A) → length l ≤ n → length (padded z n l) ≡ n
padded_length z n l h = length-append l (replicate (n - length l) z) ∙ ap (λ m. length l + m) (length-replicate (n - length l) z) ∙ omega arith

module _ {P : Type 0} where
  pub part_rows_length : (i : ℕ) (ps : List (Part P)) → length (part_rows i ps) ≡ length ps * part_size
  unfolding part_rows
  part_rows_length i [] = refl
  part_rows_length i (p ∷ ps) = let e : length (part_rows (i + length (packed p)) ps) ≡ length ps * part_size = part_rows_length
      (i + length (packed p)) ps in omega arith

  pub length_of_parts : (i : ℕ) (k : Bracket P) → length k.parts ≤ part_limit → length (padded 0 (part_limit * part_size) (part_rows i k.parts)) ≡ part_limit * part_size
  length_of_parts i k h = let e = part_rows_length i k.parts in padded_length 0 (part_limit * part_size) (part_rows i k.parts) (omega arith)

  pub places_row_length : (ps : List (Place P)) → length ps ≤ place_limit → length (places_row ps) ≡ places_size
  places_row_length ps h =
      let e = padded_length 0 place_limit (map (λ p. p.site) ps) (rw (length-map ps (λ p. p.site)) h) in
      omega arith

  pub bracket_row_length : (i : ℕ) (k : Bracket P) → length k.parts ≤ part_limit → length k.places ≤ place_limit → length (bracket_row i k) ≡ row_size
  bracket_row_length i k h q =
      let f = length_of_parts i k h in
      let g = length-append (padded 0 (part_limit * part_size) (part_rows i k.parts)) (places_row k.places) in
      let r = places_row_length k.places q in
      omega arith

  pub number_row_length : (k : Bracket P) → length k.parts ≤ part_limit → length (number_row k) ≡ number_row_size
  number_row_length k h =
      length-append (padded (pos 0) part_limit (map (λ p. mass_in p.value) k.parts)) (given (score_of k.parts) millionths (pos 0) ∷ [])
      ∙ ap (λ m. m + 1) (padded_length (pos 0) part_limit (map (λ p. mass_in p.value) k.parts) (rw (length-map k.parts (λ p. mass_in p.value)) h))

-- ---- one part
abbrev OfValue : {P : Type 0} → Value P → Type 0
OfValue (mass n) = NumberWithin n
OfValue (text t) = 0 < length t
OfValue reference = Unit {0}
OfValue (composition t n) = (0 < length t) × NumberWithin n

offset_at : (l : List ℕ) (i : ℕ) → 0 < length l → offset l i ≡ i
offset_at [] i h = absurd (omega arith)
offset_at (b ∷ l) i h = refl

module _ {P : Type 0} (bs : List ℕ) (ns : List ℤ) (k j : ℕ) where
  value_back :
      (v : Value P) → OfValue v → value_field bs k j ≡ value_code v → decimals_field bs k j ≡ decimals_in v → text_field bs k j ≡ length (text_in v)
      → mass_field ns k j ≡ mass_in v
      → (0 < length (text_in v) → part (texts_at + offset_field bs k j) (length (text_in v)) bs ≡ text_in v)
      → value_in bs ns k j ≡ bare_value v
  value_back (mass n) w c d e m t = rw (c, d, m) (ap mass (number_back n w))
  value_back (text x) w c d e m t = rw (c, e) (ap text (t w))
  value_back reference w c d e m t = rw (c)
  value_back (composition x n) w c d e m t = rw (c, d, e, m) (ap₂ composition (t w.0) (number_back n w.1))

  label_back :
      (l : Option (Label P)) → OfGiven LabelWithin l → label_field bs k j ≡ length (given l (λ l. l.name) [])
      → (0 < length (given l (λ l. l.name) []) → part (texts_at + offset_field bs k j + text_field bs k j)
      (length (given l (λ l. l.name) [])) bs ≡ given l (λ l. l.name) [])
      → OfGiven (λ l. score_in bs ns k ≡ optional bare_number l.score) l
      → label_in bs ns k j ≡ optional bare_label l
  label_back none w e t s = rw e
  label_back (some l) w e t s =
      let z : eqb (length l.name) 0 ≡ false = ne_eqb (length l.name) 0 (λ q. let h : 0 < length l.name = w.some_name in omega arith) in
      rw (e, z) (ap₂ (λ a b. some (record { name = a; score = b; at = tt })) (t w.some_name) s)

-- what is read of part j of bracket k, whose texts begin at i among the texts
pub record PartRead {P : Type 0} (bs : List ℕ) (ns : List ℤ) (k j i : ℕ) (p : Part P) : Type 0 where
  pub code : value_field bs k j ≡ value_code p.value
  pub key : key_field bs k j ≡ key_code p.key
  pub decimals : decimals_field bs k j ≡ decimals_in p.value
  pub text_length_is : text_field bs k j ≡ length (text_of p)
  pub label_length_is : label_field bs k j ≡ length (label_of p)
  pub from : offset_field bs k j ≡ offset (packed p) i
  pub number : mass_field ns k j ≡ mass_in p.value
  pub texts : At bs (texts_at + i) (packed p)

-- of the parts from part j on
abbrev pub PartsRead : {P : Type 0} → List ℕ → List ℤ → ℕ → ℕ → ℕ → List (Part P) → Type 0
PartsRead bs ns k j i [] = Unit {0}
PartsRead bs ns k j i (p ∷ ps) = PartRead bs ns k j i p × PartsRead bs ns k (j + 1) (i + length (packed p)) ps

module _ {P : Type 0} (bs : List ℕ) (ns : List ℤ) (k : ℕ) where
  part_read :
      (j i : ℕ) (p : Part P) → At bs (part_at k j) (part_row i p) → mass_field ns k j ≡ mass_in p.value → At bs (texts_at + i) (packed p)
      → PartRead bs ns k j i p
  part_read j i p a m t =
      let r = fields_read bs k j (value_code p.value) (key_code p.key) (decimals_in p.value) (length (text_of p)) (length (label_of p))
      (offset (packed p) i) a in
      record {
        code = r.value_read;
        key = r.key_read;
        decimals = r.decimals_read;
        text_length_is = r.text_read;
        label_length_is = r.label_read;
        from = r.offset_read;
        number = m;
        texts = t;
      }

  pub parts_read :
      (j i : ℕ) (ps : List (Part P)) → At bs (part_at k j) (part_rows i ps) → At ns (mass_at k j) (map (λ p. mass_in p.value) ps) → At bs (texts_at + i)
      (flat packed ps)
      → PartsRead bs ns k j i ps
  unfolding part_rows flat
  parts_read j i [] a m t = tt
  parts_read j i (p ∷ ps) a m t = (
    part_read j i p (at_first bs (part_at k j) (part_row i p) (part_rows (i + length (packed p)) ps) a) (at_head ns (mass_at k j) _ _ m (pos 0))
        (at_first bs (texts_at + i) (packed p) (flat packed ps) t),
    parts_read (j + 1) (i + length (packed p)) ps
        (at_next bs (part_at k j) (part_row i p) (part_rows (i + length (packed p)) ps) part_size (part_at k (j + 1)) refl (omega arith) a)
        (at_next ns (mass_at k j) (mass_in p.value ∷ []) (map (λ p. mass_in p.value) ps) 1 (mass_at k (j + 1)) refl (omega arith) m)
        (at_next bs (texts_at + i) (packed p) (flat packed ps) (length (packed p)) (texts_at + (i + length (packed p))) refl (omega arith) t),
  )

  value_of : (p : Part P) → PartWithin p → OfValue p.value
  value_of p w = go p.value w.value
    where
      go : (v : Value P) → ValueWithin p v → OfValue v
      go (mass n) h = h
      go (text t) h = h.some_text
      go reference h = tt
      go (composition t n) h = (h.text.some_text, h.mass)

  part_back :
      (j i : ℕ) (p : Part P) → PartWithin p → PartRead bs ns k j i p → OfGiven (λ l. score_in bs ns k ≡ optional bare_number l.score) p.label
      → part_in bs ns k j ≡ bare_part p
  unfolding part_in
  part_back j i p w r s =
      let from : 0 < length (packed p) → offset_field bs k j ≡ i = λ h. r.from ∙ offset_at (packed p) i h in
      let sum : length (packed p) ≡ length (text_of p) + length (label_of p) = length-append (text_of p) (label_of p) in
      let t : 0 < length (text_of p) → part (texts_at + offset_field bs k j) (length (text_of p)) bs ≡ text_of p =
      λ h. ap (λ z. part (texts_at + z) (length (text_of p)) bs) (from (omega arith)) ∙ at_part bs (texts_at + i) (text_of p)
      (at_first bs (texts_at + i) (text_of p) (label_of p) r.texts) in
      let u : 0 < length (label_of p) → part (texts_at + offset_field bs k j + text_field bs k j) (length (label_of p)) bs ≡ label_of p =
      λ h. ap₂ (λ y z. part (texts_at + y + z) (length (label_of p)) bs) (from (omega arith)) r.text_length_is
      ∙ at_part bs (texts_at + i + length (text_of p)) (label_of p)
      (at_next bs (texts_at + i) (text_of p) (label_of p) (length (text_of p)) (texts_at + i + length (text_of p)) refl refl r.texts) in
      let a : key_in (key_field bs k j) ≡ p.key = ap key_in r.key ∙ key_back p.key in
      let b : value_in bs ns k j ≡ bare_value p.value = value_back bs ns k j p.value (value_of p w) r.code r.decimals r.text_length_is
      r.number t in
      let c : label_in bs ns k j ≡ optional bare_label p.label = label_back bs ns k j p.label w.label r.label_length_is u s in
      λ d. record { key = a d; value = b d; label = c d; at = tt }

  pub parts_back :
      (j i : ℕ) (ps : List (Part P)) → Each PartWithin ps → PartsRead bs ns k j i ps → Each
      (λ p. OfGiven (λ l. score_in bs ns k ≡ optional bare_number l.score) p.label) ps
      → tabled (part_in bs ns k) j (length ps) ≡ map bare_part ps
  unfolding tabled
  parts_back j i [] w r s = refl
  parts_back j i (p ∷ ps) w r s = ap₂ ◌∷◌ (part_back j i p w.0 r.0 s.0) (parts_back (j + 1) (i + length (packed p)) ps w.1 r.1 s.1)

-- ---- scores: a bracket has at most one label, so its score is that label's
module _ {P : Type 0} where
  score_none : (ps : List (Part P)) → length (flat name_of ps) ≤ 0 → score_of ps ≡ none
  unfolding score_of flat
  score_none [] h = refl
  score_none (p ∷ ps) h = go p.label h (score_none ps)
    where
      go :
          (l : Option (Label P)) → length (given l (λ l. l.name ∷ []) [] ++ flat name_of ps) ≤ 0 → (length (flat name_of ps) ≤ 0 → score_of ps ≡ none)
          → given l (λ l. given l.score some (score_of ps)) (score_of ps) ≡ none
      go none h e = e h
      go (some l) h e = absurd (omega arith)

  nothing_given : (Q : Label P → Type 0) (ps : List (Part P)) → length (flat name_of ps) ≤ 0 → Each (λ p. OfGiven Q p.label) ps
  unfolding flat
  nothing_given Q [] h = tt
  nothing_given Q (p ∷ ps) h = go p.label h (nothing_given Q ps)
    where
      go :
          (l : Option (Label P)) → length (given l (λ l. l.name ∷ []) [] ++ flat name_of ps) ≤ 0
          → (length (flat name_of ps) ≤ 0 → Each (λ p. OfGiven Q p.label) ps) → OfGiven Q l × Each (λ p. OfGiven Q p.label) ps
      go none h e = (tt, e h)
      go (some l) h e = absurd (omega arith)

  or_none : (s : Option (Number P)) → given s some none ≡ s
  or_none none = refl
  or_none (some n) = refl

  pub one_score : (ps : List (Part P)) → length (flat name_of ps) ≤ 1 → Each (λ p. OfGiven (λ l. l.score ≡ score_of ps) p.label) ps
  unfolding score_of flat
  one_score [] h = tt
  one_score (p ∷ ps) h = go p.label h (one_score ps)
    where
      go :
          (l : Option (Label P)) → length (given l (λ l. l.name ∷ []) [] ++ flat name_of ps) ≤ 1
          → (length (flat name_of ps) ≤ 1 → Each (λ p. OfGiven (λ l. l.score ≡ score_of ps) p.label) ps)
          → OfGiven (λ m. m.score ≡ given l (λ l. given l.score some (score_of ps)) (score_of ps)) l
          × Each (λ p. OfGiven (λ m. m.score ≡ given l (λ l. given l.score some (score_of ps)) (score_of ps)) p.label) ps
      go none h e = (tt, e h)
      go (some l) h e =
          let z : length (flat name_of ps) ≤ 0 = omega arith in (
            sym (or_none l.score) ∙ ap (λ s. given l.score some s) (sym (score_none ps z)),
            nothing_given (λ m. m.score ≡ given l.score some (score_of ps)) ps z,
          )

  pub score_within : (ps : List (Part P)) → Each PartWithin ps → OfGiven NumberWithin (score_of ps)
  unfolding score_of
  score_within [] w = tt
  score_within (p ∷ ps) w = go p.label w.0.label (score_within ps w.1)
    where
      in_label :
          (s : Option (Number P)) → OfGiven NumberWithin s → OfGiven NumberWithin (score_of ps) → OfGiven NumberWithin (given s some (score_of ps))
      in_label none h e = e
      in_label (some n) h e = h

      go :
          (l : Option (Label P)) → OfGiven LabelWithin l → OfGiven NumberWithin (score_of ps)
          → OfGiven NumberWithin (given l (λ l. given l.score some (score_of ps)) (score_of ps))
      go none h e = e
      go (some l) h e = in_label l.score h.score e

-- ---- brackets
-- the head of a bracket's row
abbrev pub head_of : {P : Type 0} → Bracket P → List ℕ
head_of b = head_row (kind_code b.kind) b.first b.last b.count (length b.parts) (score_code (score_of b.parts))

-- what is read of bracket k, whose texts begin at i among the texts
pub record BracketIn {P : Type 0} (bs : List ℕ) (ns : List ℤ) (k i : ℕ) (b : Bracket P) : Type 0 where
  pub kind : kind_field bs k ≡ kind_code b.kind
  pub first : first_field bs k ≡ b.first
  pub last : last_field bs k ≡ b.last
  pub count : count_field bs k ≡ b.count
  pub many : parts_field bs k ≡ length b.parts
  pub score : score_field bs k ≡ score_code (score_of b.parts)
  pub number : score_number ns k ≡ given (score_of b.parts) millionths (pos 0)
  pub parts : PartsRead bs ns k 0 i b.parts
  pub places : PlacesRead bs k b.places

-- of the brackets from bracket k on
abbrev pub BracketsRead : {P : Type 0} → List ℕ → List ℤ → ℕ → ℕ → List (Bracket P) → Type 0
BracketsRead bs ns k i [] = Unit {0}
BracketsRead bs ns k i (b ∷ ks) = BracketIn bs ns k i b × BracketsRead bs ns (k + 1) (i + length (bracket_texts b)) ks

module _ {P : Type 0} (bs : List ℕ) (ns : List ℤ) where
  bracket_read :
      (k i : ℕ) (b : Bracket P) → length b.parts ≤ part_limit → At bs (row_at k) (bracket_row i b) → At ns (k * number_row_size) (number_row b)
      → At bs (texts_at + i) (bracket_texts b) → BracketIn bs ns k i b
  bracket_read k i b h a m t =
      let rowed = length_of_parts i b h in
      let masses = map (λ p. mass_in p.value) b.parts in
      let score = given (score_of b.parts) millionths (pos 0) in
      let e : length (padded (pos 0) part_limit masses) ≡ part_limit = padded_length (pos 0) part_limit masses (rw (length-map b.parts (λ p. mass_in p.value)) h) in
      let parts = padded 0 (part_limit * part_size) (part_rows i b.parts) in
      let r = head_read bs k (kind_code b.kind) b.first b.last b.count (length b.parts) (score_code (score_of b.parts))
      (at_first bs (row_at k) (head_of b) (parts ++ places_row b.places) a) in
      let behind = at_next bs (row_at k) (head_of b) (parts ++ places_row b.places) head_size (part_at k 0) refl (omega arith) a in
      record {
        kind = r.kind_read;
        first = r.first_read;
        last = r.last_read;
        count = r.count_read;
        many = r.parts_read;
        score = r.score_read;
        number = at_head ns (mass_at k part_limit) score []
            (at_next ns (k * number_row_size) (padded (pos 0) part_limit masses) (score ∷ []) part_limit (mass_at k part_limit) e refl m) (pos 0);
        parts =
            parts_read bs ns k 0 i b.parts
            (at_first bs (part_at k 0) (part_rows i b.parts) (replicate (part_limit * part_size - length (part_rows i b.parts)) 0)
            (at_first bs (part_at k 0) parts (places_row b.places) behind))
            (at_first ns (mass_at k 0) masses (replicate (part_limit - length masses) (pos 0))
            (at_next ns (k * number_row_size) [] (padded (pos 0) part_limit masses) 0 (mass_at k 0) refl refl
            (at_first ns (k * number_row_size) (padded (pos 0) part_limit masses) (score ∷ []) m)))
            t;
        places = places_read bs k b.places (at_next bs (part_at k 0) parts (places_row b.places) (part_limit * part_size) (places_at k) rowed (omega arith) behind);
      }

  pub brackets_read :
      (n k i : ℕ) (ks : List (Bracket P)) → Each (BracketWithin n) ks → At bs (row_at k) (rows i ks) → At ns (k * number_row_size) (flat number_row ks) → At bs
      (texts_at + i) (flat bracket_texts ks)
      → BracketsRead bs ns k i ks
  unfolding rows flat
  brackets_read n k i [] w a m t = tt
  brackets_read n k i (b ∷ ks) w a m t =
      let few : length b.parts ≤ part_limit = w.0.few_parts_lem in
      let few_places : length b.places ≤ place_limit = w.0.few_places in
      let next = i + length (bracket_texts b) in (
        bracket_read k i b few
            (at_first bs (row_at k) (bracket_row i b) (rows next ks) a)
            (at_first ns (k * number_row_size) (number_row b) (flat number_row ks) m)
            (at_first bs (texts_at + i) (bracket_texts b) (flat bracket_texts ks) t),
        brackets_read n (k + 1) next ks w.1
            (at_next bs (row_at k) (bracket_row i b) (rows next ks) row_size (row_at (k + 1)) (bracket_row_length i b few few_places) (omega arith) a)
            (at_next ns (k * number_row_size) (number_row b) (flat number_row ks) number_row_size ((k + 1) * number_row_size) (number_row_length b few) (omega arith) m)
            (at_next bs (texts_at + i) (bracket_texts b) (flat bracket_texts ks) (length (bracket_texts b)) (texts_at + next) refl (omega arith) t),
      )

  score_back :
      (k : ℕ) (s : Option (Number P)) → OfGiven NumberWithin s → score_field bs k ≡ score_code s → score_number ns k ≡ given s millionths (pos 0)
      → score_in bs ns k ≡ optional bare_number s
  score_back k none w e m = rw e
  score_back k (some n) w e m =
      let z : eqb (n.decimals + 1) 0 ≡ false = ne_eqb (n.decimals + 1) 0 (λ q. omega arith) in
      let d : n.decimals + 1 - 1 ≡ n.decimals = omega arith in
      rw (e, m, z, d) (ap some (number_back n w))

  scores_back :
      (k : ℕ) (s : Option (Number P)) (ps : List (Part P)) → score_in bs ns k ≡ optional bare_number s
      → Each (λ p. OfGiven (λ l. l.score ≡ s) p.label) ps
      → Each (λ p. OfGiven (λ l. score_in bs ns k ≡ optional bare_number l.score) p.label) ps
  scores_back k s [] e h = tt
  scores_back k s (p ∷ ps) e h = (go p.label h.0, scores_back k s ps e h.1)
    where
      go : (l : Option (Label P)) → OfGiven (λ l. l.score ≡ s) l → OfGiven (λ l. score_in bs ns k ≡ optional bare_number l.score) l
      go none q = tt
      go (some l) q = e ∙ ap (optional bare_number) (sym q)

  places_back : (k j : ℕ) (ps : List (Place P)) → At bs (site_at k j) (map (λ p. p.site) ps) → tabled (place_in bs k) j (length ps) ≡ map bare_place ps
  unfolding tabled
  places_back k j [] a = refl
  places_back k j (p ∷ ps) a =
      let x : site_field bs k j ≡ p.site = at_head bs (site_at k j) _ _ a 0 in
      ap₂ ◌∷◌ (λ d. record { site = x d; at = tt }) (places_back k (j + 1) ps (at_next bs (site_at k j) (p.site ∷ []) (map (λ p. p.site) ps) 1 (site_at k (j + 1)) refl (omega arith) a))

  bracket_back : (n k i : ℕ) (b : Bracket P) → BracketWithin n b → BracketIn bs ns k i b → bracket_in bs ns k ≡ bare_bracket b
  unfolding bracket_in
  bracket_back n k i b w r =
      let s : score_in bs ns k ≡ optional bare_number (score_of b.parts) = score_back k (score_of b.parts) (score_within b.parts w.parts)
      r.score r.number in
      let ps : tabled (part_in bs ns k) 0 (parts_field bs k) ≡ map bare_part b.parts =
      ap (tabled (part_in bs ns k) 0) r.many
      ∙ parts_back bs ns k 0 i b.parts w.parts r.parts
      (scores_back k (score_of b.parts) b.parts s (one_score b.parts w.one_label)) in
      let c : kind_in (kind_field bs k) ≡ b.kind = ap kind_in r.kind ∙ kind_back b.kind in
      let q : tabled (place_in bs k) 0 (places_field bs k) ≡ map bare_place b.places =
      ap (tabled (place_in bs k) 0) r.places.many_read ∙ places_back k 0 b.places r.places.sites_read in
      λ d. record { kind = c d; first = r.first d; last = r.last d; count = r.count d; counted = none; parts = ps d; places = q d; at = tt }

  pub brackets_back :
      (n k i : ℕ) (ks : List (Bracket P)) → Each (BracketWithin n) ks → BracketsRead bs ns k i ks
      → tabled (bracket_in bs ns) k (length ks) ≡ map bare_bracket ks
  unfolding tabled
  brackets_back n k i [] w r = refl
  brackets_back n k i (b ∷ ks) w r = ap₂ ◌∷◌ (bracket_back n k i b w.0 r.0)
      (brackets_back n (k + 1) (i + length (bracket_texts b)) ks w.1 r.1)

-- ---- residues
residues_back :
    {P : Type 0} (bs : List ℕ) (i : ℕ) (rs : List (Residue P)) → At bs (letters_at + i) (map (λ r. r.letter) rs) → At bs (sections_at + i)
    (map (λ r. section_code r.section) rs)
    → tabled (residue_in bs) i (length rs) ≡ map bare_residue rs
unfolding tabled
residues_back bs i [] a c = refl
residues_back bs i (r ∷ rs) a c =
    let x : letter_field bs i ≡ r.letter = at_head bs (letters_at + i) _ _ a 0 in
    let y : section_in (section_field bs i) ≡ r.section = ap section_in (at_head bs (sections_at + i) _ _ c 0) ∙ section_back r.section in
    ap₂ ◌∷◌ (λ d. record { letter = x d; section = y d; at = tt })
    (residues_back bs (i + 1) rs
    (at_next bs (letters_at + i) (r.letter ∷ []) (map (λ r. r.letter) rs) 1 (letters_at + (i + 1)) refl (omega arith) a)
    (at_next bs (sections_at + i) (section_code r.section ∷ []) (map (λ r. section_code r.section) rs) 1 (sections_at + (i + 1)) refl (omega arith) c))

-- ---- the whole areas
pub record AreasRead {P : Type 0} (bs : List ℕ) (ns : List ℤ) (l : Line P) : Type 0 where
  pub residues_many : residues_field bs ≡ length l.residues
  pub brackets_many : brackets_field bs ≡ length l.brackets
  pub letters : At bs letters_at (map (λ r. r.letter) l.residues)
  pub sections : At bs sections_at (map (λ r. section_code r.section) l.residues)
  pub brackets : BracketsRead bs ns 0 0 l.brackets

module _ {P : Type 0} where
  pub rows_length : (n i : ℕ) (ks : List (Bracket P)) → Each (BracketWithin n) ks → length (rows i ks) ≡ length ks * row_size
  unfolding rows
  rows_length n i [] w = refl
  rows_length n i (k ∷ ks) w =
      let e = bracket_row_length i k w.0.few_parts_lem w.0.few_places in
      let f = rows_length n (i + length (bracket_texts k)) ks w.1 in
      length-append (bracket_row i k) (rows (i + length (bracket_texts k)) ks) ∙ omega arith

  pub number_rows_length : (n : ℕ) (ks : List (Bracket P)) → Each (BracketWithin n) ks → length (flat number_row ks) ≡ length ks * number_row_size
  unfolding flat
  number_rows_length n [] w = refl
  number_rows_length n (k ∷ ks) w =
      let e = number_row_length k w.0.few_parts_lem in
      let f = number_rows_length n ks w.1 in
      length-append (number_row k) (flat number_row ks) ∙ omega arith

module _ {P : Type 0} (l : Line P) (within : Within l) where
  -- the five pieces of the area of bytes
  abbrev numbers : List ℕ
  numbers = counts_row (length l.residues) (length l.brackets)

  abbrev letters : List ℕ
  letters = padded 0 residue_limit (map (λ r. r.letter) l.residues)

  abbrev sections : List ℕ
  sections = padded 0 residue_limit (map (λ r. section_code r.section) l.residues)

  abbrev brackets : List ℕ
  brackets = padded 0 (bracket_limit * row_size) (rows 0 l.brackets)

  abbrev texts : List ℕ
  texts = padded 0 line_limit (flat bracket_texts l.brackets)

  letters_length : length letters ≡ residue_limit
  letters_length = padded_length 0 residue_limit (map (λ r. r.letter) l.residues) (rw (length-map l.residues (λ r. r.letter)) within.few_residues)

  sections_length : length sections ≡ residue_limit
  sections_length = padded_length 0 residue_limit (map (λ r. section_code r.section) l.residues)
      (rw (length-map l.residues (λ r. section_code r.section)) within.few_residues)

  brackets_length : length brackets ≡ bracket_limit * row_size
  brackets_length =
      let e = rows_length (length l.residues) 0 l.brackets within.brackets in
      let few = within.few_brackets_lem in
      padded_length 0 (bracket_limit * row_size) (rows 0 l.brackets) (omega arith)

  texts_length : length texts ≡ line_limit
  texts_length = padded_length 0 line_limit (flat bracket_texts l.brackets) within.texts

  pub bytes_length : length (bytes_of l) ≡ bytes_size
  unfolding bytes_of
  bytes_length =
      let a = letters_length in
      let b = sections_length in
      let c = brackets_length in
      let d = texts_length in
      let e = length-append letters (sections ++ (brackets ++ texts)) in
      let f = length-append sections (brackets ++ texts) in
      let g = length-append brackets texts in
      omega arith

  pub numbers_length : length (numbers_of l) ≡ numbers_size
  unfolding numbers_of
  numbers_length =
      let e = number_rows_length (length l.residues) l.brackets within.brackets in
      let few = within.few_brackets_lem in
      padded_length (pos 0) numbers_size (flat number_row l.brackets) (omega arith)

  pub areas_read : (w : List ℕ) (v : List ℤ) → AreasRead (bytes_of l ++ w) (numbers_of l ++ v) l
  unfolding bytes_of numbers_of
  areas_read w v =
      let bs = bytes_of l ++ w in
      let ns = numbers_of l ++ v in
      let a0 : At bs residues_at (numbers ++ (letters ++ (sections ++ (brackets ++ texts)))) = at_start (bytes_of l) w in
      let a1 : At bs letters_at (letters ++ (sections ++ (brackets ++ texts))) = at_next bs residues_at numbers
      (letters ++ (sections ++ (brackets ++ texts))) letters_at letters_at refl refl a0 in
      let a2 : At bs sections_at (sections ++ (brackets ++ texts)) = at_next bs letters_at letters (sections ++ (brackets ++ texts)) residue_limit sections_at letters_length refl a1 in
      let a3 : At bs rows_at (brackets ++ texts) = at_next bs sections_at sections (brackets ++ texts) residue_limit rows_at sections_length refl a2 in
      let a4 : At bs texts_at texts = at_next bs rows_at brackets texts (bracket_limit * row_size) texts_at brackets_length refl a3 in
      let c = counts_read bs (length l.residues) (length l.brackets) (at_first bs residues_at numbers (letters ++ (sections ++ (brackets ++ texts))) a0) in
      record {
        residues_many = c.residues_read;
        brackets_many = c.brackets_read;
        letters = at_first bs letters_at (map (λ r. r.letter) l.residues) _ (at_first bs letters_at letters (sections ++ (brackets ++ texts)) a1);
        sections = at_first bs sections_at (map (λ r. section_code r.section) l.residues) _ (at_first bs sections_at sections (brackets ++ texts) a2);
        brackets =
            brackets_read bs ns (length l.residues) 0 0 l.brackets within.brackets
            (at_first bs rows_at (rows 0 l.brackets) _ (at_first bs rows_at brackets texts a3))
            (at_first ns 0 (flat number_row l.brackets) _ (at_start (numbers_of l) v))
            (at_first bs texts_at (flat bracket_texts l.brackets) _ a4);
      }

  pub tables_read_lem : (bs : List ℕ) (ns : List ℤ) → AreasRead bs ns l → tables_in bs ns ≡ tables_of l
  unfolding tables_in tables_of
  tables_read_lem bs ns r =
      ap₂ (λ a b. record { residues = a; brackets = b })
      (ap (tabled (residue_in bs) 0) r.residues_many ∙ residues_back bs 0 l.residues r.letters r.sections)
      (ap (tabled (bracket_in bs ns) 0) r.brackets_many ∙ brackets_back bs ns (length l.residues) 0 0 l.brackets within.brackets
      r.brackets)

  pub tables_back : (w : List ℕ) (v : List ℤ) → tables_in (bytes_of l ++ w) (numbers_of l ++ v) ≡ tables_of l
  tables_back w v = tables_read_lem (bytes_of l ++ w) (numbers_of l ++ v) (areas_read w v)
