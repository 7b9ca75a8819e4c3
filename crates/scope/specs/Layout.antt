-- How the tables lie in the two lent areas: one of bytes, one of whole numbers for masses and scores.
use Rattle.std.specs.Prelude.{ℕ, ◌+◌, ◌-◌, ◌*◌, ◌/◌, ◌%◌, ◌^◌, Bool, true, false, cond, List, [], ◌∷◌, ◌++◌, map, eqb, ℤ, pos, negsuc, nat_abs, length, get_or}
use Rattle.std.proofs.Math.Option.{Option, none, some}
use Rattle.scope.specs.declared.grammar.Section.{Section}
use Rattle.scope.specs.declared.grammar.Section.TheVariants.{Plain, RangeFirst, RangeNext, UnsureFirst, UnsureNext}
use Rattle.scope.specs.Bytes.{byte_limit}
use Rattle.scope.specs.Lists.{given, flat, part, tabled, padded}
use Rattle.scope.specs.Limits.{line_limit, residue_limit, bracket_limit, part_limit, place_limit, decimal_limit}
use Rattle.scope.specs.Line.{Number, Label, Value, mass, text, reference, composition, Place, Part, Bracket, Residue, Line}
use Rattle.scope.specs.Keys.{key_code, key_in}
use Rattle.scope.specs.Kinds.{kind_code, kind_in}
use Rattle.scope.specs.Refusals.{text_of}
use Rattle.scope.specs.Tables.{Tables, millionths, label_of, score_of}

-- ---- sizes: "Lent areas have the fixed sizes these give"
-- a part's row: kind, key, decimals, length of text, length of label, offset of its text, low byte and high
abbrev pub part_size : ℕ
part_size = 7

-- a bracket's row: kind, first and last position in two bytes each, count, number of parts, score; then its parts; then how many places it has, and a
-- byte for each
abbrev pub head_size : ℕ
head_size = 8

abbrev pub places_size : ℕ
places_size = 1 + place_limit

abbrev pub row_size : ℕ
row_size = head_size + part_limit * part_size + places_size

-- where each table begins: after the numbers of residues, in two bytes, and of brackets come letters, sections, brackets and texts
abbrev pub residues_at : ℕ
residues_at = 0

abbrev pub brackets_at : ℕ
brackets_at = 2

abbrev pub letters_at : ℕ
letters_at = brackets_at + 1

abbrev pub sections_at : ℕ
sections_at = letters_at + residue_limit

abbrev pub rows_at : ℕ
rows_at = sections_at + residue_limit

abbrev pub texts_at : ℕ
texts_at = rows_at + bracket_limit * row_size

abbrev pub bytes_size : ℕ
bytes_size = texts_at + line_limit

-- a bracket's numbers: the masses of its parts, and its score
abbrev pub number_row_size : ℕ
number_row_size = part_limit + 1

abbrev pub numbers_size : ℕ
numbers_size = bracket_limit * number_row_size

-- where the row of bracket k begins, and its fields; that of its part j; the number of its places, and its place j
abbrev pub row_at : ℕ → ℕ
row_at k = rows_at + k * row_size

abbrev pub first_at : ℕ → ℕ
first_at k = row_at k + 1

abbrev pub last_at : ℕ → ℕ
last_at k = row_at k + 3

abbrev pub count_at : ℕ → ℕ
count_at k = row_at k + 5

abbrev pub parts_at : ℕ → ℕ
parts_at k = row_at k + 6

abbrev pub score_at : ℕ → ℕ
score_at k = row_at k + 7

abbrev pub part_at : ℕ → ℕ → ℕ
part_at k j = row_at k + head_size + j * part_size

abbrev pub places_at : ℕ → ℕ
places_at k = part_at k part_limit

abbrev pub site_at : ℕ → ℕ → ℕ
site_at k j = places_at k + 1 + j

-- where its masses begin, one for each part, and its score after them
abbrev pub mass_at : ℕ → ℕ → ℕ
mass_at k j = k * number_row_size + j

-- ---- the areas of tables
abbrev pub section_code : Section → ℕ
section_code Plain = 0
section_code RangeFirst = 1
section_code RangeNext = 2
section_code UnsureFirst = 3
section_code UnsureNext = 4

abbrev pub mass_code : ℕ
mass_code = 1

abbrev pub text_code : ℕ
text_code = 2

abbrev pub reference_code : ℕ
reference_code = 3

abbrev pub composition_code : ℕ
composition_code = 4

abbrev pub value_code : {P : Type 0} → Value P → ℕ
value_code (mass n) = mass_code
value_code (text t) = text_code
value_code reference = reference_code
value_code (composition t n) = composition_code

abbrev pub mass_in : {P : Type 0} → Value P → ℤ
mass_in (mass n) = millionths n
mass_in (text t) = pos 0
mass_in reference = pos 0
mass_in (composition t n) = millionths n

abbrev pub decimals_in : {P : Type 0} → Value P → ℕ
decimals_in (mass n) = n.decimals
decimals_in (text t) = 0
decimals_in reference = 0
decimals_in (composition t n) = n.decimals

-- "Texts are packed in order of appearance": a part's text, then its label
abbrev pub packed : {P : Type 0} → Part P → List ℕ
packed p = text_of p ++ label_of p

-- a number in two bytes, low byte first
abbrev pub two_bytes : ℕ → List ℕ
two_bytes n = n % byte_limit ∷ n / byte_limit ∷ []

-- no offset where there is nothing
abbrev pub offset : List ℕ → ℕ → ℕ
offset [] at = 0
offset (b ∷ l) at = at

-- the row of a part, by its fields
abbrev pub part_fields : ℕ → ℕ → ℕ → ℕ → ℕ → ℕ → List ℕ
part_fields value key decimals text_length label_length from = value ∷ key ∷ decimals ∷ text_length ∷ label_length ∷ two_bytes from

abbrev pub part_row : {P : Type 0} → ℕ → Part P → List ℕ
part_row at p =
    part_fields (value_code p.value) (key_code p.key) (decimals_in p.value) (length (text_of p)) (length (label_of p))
    (offset (packed p) at)

unfoldable pub part_rows : {P : Type 0} → ℕ → List (Part P) → List ℕ
part_rows at [] = []
part_rows at (p ∷ ps) = part_row at p ++ part_rows (at + length (packed p)) ps

-- 0 for no score, else one more than its decimals
abbrev pub score_code : {P : Type 0} → Option (Number P) → ℕ
score_code none = 0
score_code (some n) = n.decimals + 1

-- the head of a bracket's row, by its fields
abbrev pub head_row : ℕ → ℕ → ℕ → ℕ → ℕ → ℕ → List ℕ
head_row kind first last count parts score = kind ∷ (two_bytes first ++ (two_bytes last ++ (count ∷ parts ∷ score ∷ [])))

-- how many places, then a byte each
abbrev pub places_row : {P : Type 0} → List (Place P) → List ℕ
places_row ps = length ps ∷ padded 0 place_limit (map (λ p. p.site) ps)

abbrev pub bracket_row : {P : Type 0} → ℕ → Bracket P → List ℕ
bracket_row at k =
    head_row (kind_code k.kind) k.first k.last k.count (length k.parts) (score_code (score_of k.parts))
    ++ (padded 0 (part_limit * part_size) (part_rows at k.parts) ++ places_row k.places)

abbrev pub bracket_texts : {P : Type 0} → Bracket P → List ℕ
bracket_texts k = flat packed k.parts

unfoldable pub rows : {P : Type 0} → ℕ → List (Bracket P) → List ℕ
rows at [] = []
rows at (k ∷ ks) = bracket_row at k ++ rows (at + length (bracket_texts k)) ks

abbrev pub counts_row : ℕ → ℕ → List ℕ
counts_row residues brackets = two_bytes residues ++ (brackets ∷ [])

unfoldable pub bytes_of : {P : Type 0} → Line P → List ℕ
bytes_of t =
    counts_row (length t.residues) (length t.brackets)
    ++ (padded 0 residue_limit (map (λ r. r.letter) t.residues)
    ++ (padded 0 residue_limit (map (λ r. section_code r.section) t.residues)
    ++ (padded 0 (bracket_limit * row_size) (rows 0 t.brackets)
    ++ padded 0 line_limit (flat bracket_texts t.brackets))))

abbrev pub number_row : {P : Type 0} → Bracket P → List ℤ
number_row k = padded (pos 0) part_limit (map (λ p. mass_in p.value) k.parts) ++ (given (score_of k.parts) millionths (pos 0) ∷ [])

unfoldable pub numbers_of : {P : Type 0} → Line P → List ℤ
numbers_of t = padded (pos 0) numbers_size (flat number_row t.brackets)

-- ---- the fields of the areas, whatever they hold
abbrev pub byte_at : List ℕ → ℕ → ℕ
byte_at bs i = get_or bs i 0

-- a number of two bytes, low byte first
abbrev pub wide_at : List ℕ → ℕ → ℕ
wide_at bs i = byte_at bs i + byte_limit * byte_at bs (i + 1)

abbrev pub residues_field : List ℕ → ℕ
residues_field bs = wide_at bs residues_at

abbrev pub brackets_field : List ℕ → ℕ
brackets_field bs = byte_at bs brackets_at

abbrev pub letter_field : List ℕ → ℕ → ℕ
letter_field bs i = byte_at bs (letters_at + i)

abbrev pub section_field : List ℕ → ℕ → ℕ
section_field bs i = byte_at bs (sections_at + i)

-- of bracket k
abbrev pub kind_field : List ℕ → ℕ → ℕ
kind_field bs k = byte_at bs (row_at k)

abbrev pub first_field : List ℕ → ℕ → ℕ
first_field bs k = wide_at bs (first_at k)

abbrev pub last_field : List ℕ → ℕ → ℕ
last_field bs k = wide_at bs (last_at k)

abbrev pub count_field : List ℕ → ℕ → ℕ
count_field bs k = byte_at bs (count_at k)

abbrev pub parts_field : List ℕ → ℕ → ℕ
parts_field bs k = byte_at bs (parts_at k)

abbrev pub score_field : List ℕ → ℕ → ℕ
score_field bs k = byte_at bs (score_at k)

-- of its part j
abbrev pub value_field : List ℕ → ℕ → ℕ → ℕ
value_field bs k j = byte_at bs (part_at k j)

abbrev pub key_field : List ℕ → ℕ → ℕ → ℕ
key_field bs k j = byte_at bs (part_at k j + 1)

abbrev pub decimals_field : List ℕ → ℕ → ℕ → ℕ
decimals_field bs k j = byte_at bs (part_at k j + 2)

abbrev pub text_field : List ℕ → ℕ → ℕ → ℕ
text_field bs k j = byte_at bs (part_at k j + 3)

abbrev pub label_field : List ℕ → ℕ → ℕ → ℕ
label_field bs k j = byte_at bs (part_at k j + 4)

abbrev pub offset_field : List ℕ → ℕ → ℕ → ℕ
offset_field bs k j = wide_at bs (part_at k j + 5)

-- the number of its bracket's places, and its place j
abbrev pub places_field : List ℕ → ℕ → ℕ
places_field bs k = byte_at bs (places_at k)

abbrev pub site_field : List ℕ → ℕ → ℕ → ℕ
site_field bs k j = byte_at bs (site_at k j)

-- its mass, and the bracket's score
abbrev pub mass_field : List ℤ → ℕ → ℕ → ℤ
mass_field ns k j = get_or ns (mass_at k j) (pos 0)

abbrev pub score_number : List ℤ → ℕ → ℤ
score_number ns k = mass_field ns k part_limit

-- ---- the tables in areas, whatever they hold
abbrev pub section_in : ℕ → Section
section_in c = get_or (Plain ∷ RangeFirst ∷ RangeNext ∷ UnsureFirst ∷ UnsureNext ∷ []) c Plain

abbrev pub is_negative : ℤ → Bool
is_negative (pos m) = false
is_negative (negsuc m) = true

abbrev pub number_in : ℤ → ℕ → Number (Unit {0})
number_in m d = record { minus = is_negative m; digits = nat_abs m / 10 ^ (decimal_limit - d); decimals = d; at = tt }

abbrev pub score_in : List ℕ → List ℤ → ℕ → Option (Number (Unit {0}))
score_in bs ns k =
    cond (eqb (score_field bs k) 0) none
    (some (number_in (score_number ns k) (score_field bs k - 1)))

abbrev pub value_in : List ℕ → List ℤ → ℕ → ℕ → Value (Unit {0})
value_in bs ns k j =
    cond (eqb (value_field bs k j) mass_code) (mass (number_in (mass_field ns k j) (decimals_field bs k j)))
    (cond (eqb (value_field bs k j) text_code) (text (part (texts_at + offset_field bs k j) (text_field bs k j) bs))
    (cond (eqb (value_field bs k j) composition_code)
    (composition (part (texts_at + offset_field bs k j) (text_field bs k j) bs) (number_in (mass_field ns k j) (decimals_field bs k j)))
    reference))

abbrev pub label_in : List ℕ → List ℤ → ℕ → ℕ → Option (Label (Unit {0}))
label_in bs ns k j =
    cond (eqb (label_field bs k j) 0) none
    (some
    (record {
      name = part (texts_at + offset_field bs k j + text_field bs k j) (label_field bs k j) bs;
      score = score_in bs ns k;
      at = tt;
    }))

unfoldable pub part_in : List ℕ → List ℤ → ℕ → ℕ → Part (Unit {0})
part_in bs ns k j = record { key = key_in (key_field bs k j); value = value_in bs ns k j; label = label_in bs ns k j; at = tt }

abbrev pub place_in : List ℕ → ℕ → ℕ → Place (Unit {0})
place_in bs k j = record { site = site_field bs k j; at = tt }

unfoldable pub bracket_in : List ℕ → List ℤ → ℕ → Bracket (Unit {0})
bracket_in bs ns k =
    record {
      kind = kind_in (kind_field bs k);
      first = first_field bs k;
      last = last_field bs k;
      count = count_field bs k;
      counted = none;
      parts = tabled (part_in bs ns k) 0 (parts_field bs k);
      places = tabled (place_in bs k) 0 (places_field bs k);
      at = tt;
    }

abbrev pub residue_in : List ℕ → ℕ → Residue (Unit {0})
residue_in bs i = record { letter = letter_field bs i; section = section_in (section_field bs i); at = tt }

unfoldable pub tables_in : List ℕ → List ℤ → Tables
tables_in bs ns = record { residues = tabled (residue_in bs) 0 (residues_field bs); brackets = tabled (bracket_in bs ns) 0 (brackets_field bs) }
