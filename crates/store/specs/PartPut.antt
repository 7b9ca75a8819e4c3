-- What the row of a part in the sheet puts into the areas, and the same of what is kept of the part that the row is of.
use Rattle.std.specs.Prelude.{◌≡◌, Bool, true, false, cond, ◌&&◌, List, ◌∷◌, ◌++◌, ℕ, ◌+◌, ◌-◌, ◌*◌, ◌^◌, ◌<◌, ◌≤◌, eqb, ℤ, pos, length, get_or, set}
use Rattle.std.proofs.lemmas.List.Edits.{sets}
use Rattle.scope.specs.declared.grammar.Key.TheVariants.{Glycan}
use Rattle.scope.specs.Bytes.{byte_limit}
use Rattle.scope.specs.Limits.{line_limit, bracket_limit, part_limit, text_limit, label_limit}
use Rattle.scope.specs.Line.{Value, Part}
use Rattle.scope.specs.Keys.{key_code}
use Rattle.scope.specs.Lists.{none?, flat, part}
use Rattle.scope.specs.Glycans.{cuttings}
use Rattle.scope.specs.Kept.{cut_as, kept_part}
use Rattle.scope.specs.Refusals.{text_in, is_uncut}
use Rattle.scope.specs.Layout.{part_size, head_size, row_size, number_row_size, texts_at, part_at, mass_at, text_code, value_code, mass_in, decimals_in, packed, part_fields}
use Rattle.accepted_laws.specs.Within.{PartWithin}
use Rattle.sheet.specs.Rows.{masses_room, mass_noted, Stands}
use Rattle.sheet.specs.Fields.{value_field, key_field, decimals_field, text_from_field, text_to_field, label_from_field, label_to_field, PartIs}
use Rattle.store.specs.Areas.{Pieces, AreasAre, parts_added}

-- ---- row m
-- the text that is noted
abbrev pub text_noted : List ℕ → List ℕ → ℕ → List ℕ
text_noted line parts m = part (text_from_field parts m) (text_to_field parts m - text_from_field parts m) line

-- it is a text behind the key of compositions, and what is kept of it then
abbrev pub is_composed : List ℕ → ℕ → Bool
is_composed parts m = eqb (key_field parts m) (key_code Glycan) && eqb (value_field parts m) text_code

abbrev pub composed : List ℕ → List ℕ → ℕ → Value ℕ
composed line parts m = cut_as 0 (text_noted line parts m) (cuttings (text_noted line parts m))

-- what it puts: a text, the code of its value, the decimals and the mass
abbrev pub text_put : List ℕ → List ℕ → ℕ → List ℕ
text_put line parts m = cond (is_composed parts m) (text_in (composed line parts m)) (text_noted line parts m)

abbrev pub value_put : List ℕ → List ℕ → ℕ → ℕ
value_put line parts m = cond (is_composed parts m) (value_code (composed line parts m)) (value_field parts m)

abbrev pub decimals_put : List ℕ → List ℕ → ℕ → ℕ
decimals_put line parts m = cond (is_composed parts m) (decimals_in (composed line parts m)) (decimals_field parts m)

abbrev pub mass_put : List ℕ → List ℕ → List ℤ → ℕ → ℤ
mass_put line parts masses m = cond (is_composed parts m) (mass_in (composed line parts m)) (get_or masses m (pos 0))

abbrev pub text_length : List ℕ → List ℕ → ℕ → ℕ
text_length line parts m = length (text_put line parts m)

abbrev pub label_length : List ℕ → ℕ → ℕ
label_length parts m = label_to_field parts m - label_from_field parts m

-- its text, then its label
abbrev pub texts_from : List ℕ → List ℕ → ℕ → List ℕ
texts_from line parts m = text_put line parts m ++ part (label_from_field parts m) (label_length parts m) line

-- no offset where there is nothing
abbrev pub offset_of : ℕ → ℕ → ℕ
offset_of n t = cond (eqb n 0) 0 t

abbrev pub row_from : List ℕ → List ℕ → ℕ → ℕ → List ℕ
row_from line parts m t =
    part_fields (value_put line parts m) (key_field parts m) (decimals_put line parts m) (text_length line parts m) (label_length parts m)
    (offset_of (text_length line parts m + label_length parts m) t)

-- it fits as part j of bracket k, its texts behind t others
pub record RowFits (line parts : List ℕ) (masses : List ℤ) (m k j t : ℕ) : Type 0 where
  pub few_rows : m < masses_room
  pub value_byte : value_field parts m < byte_limit
  pub key_byte : key_field parts m < byte_limit
  pub decimals_byte : decimals_field parts m < byte_limit
  pub text_order : text_from_field parts m ≤ text_to_field parts m
  pub text_inside : text_to_field parts m ≤ length line
  pub short_text_lem : text_to_field parts m - text_from_field parts m ≤ text_limit
  pub some_cutting : is_composed parts m ≡ true → none? (cuttings (text_noted line parts m)) ≡ false
  pub label_order : label_from_field parts m ≤ label_to_field parts m
  pub label_inside : label_to_field parts m ≤ length line
  pub short_label : label_length parts m ≤ label_limit
  pub texts_room : t + (text_length line parts m + label_length parts m) ≤ line_limit
  pub few_brackets_lem : k < bracket_limit
  pub few_parts_lem : j < part_limit

-- it is a composition, and can be cut
pub record RowCut (line parts : List ℕ) (m : ℕ) : Type 0 where
  pub few_rows : m < masses_room
  pub text_order : text_from_field parts m ≤ text_to_field parts m
  pub text_inside : text_to_field parts m ≤ length line
  pub short_text_lem : text_to_field parts m - text_from_field parts m ≤ text_limit
  pub composes : is_composed parts m ≡ true
  pub cut : none? (cuttings (text_noted line parts m)) ≡ false

-- the length of its short text, and its mass in millionths
pub record ShortIs (line parts : List ℕ) (m size mass : ℕ) : Type 0 where
  pub sized : size ≡ text_length line parts m
  pub few : size ≤ text_limit
  pub weighs : pos mass ≡ mass_in (composed line parts m)
  pub fits : mass < 2 ^ 63

pub record ComposedFits (line parts : List ℕ) (masses : List ℤ) (m k j t : ℕ) : Type 0 where
  pub fits : RowFits line parts masses m k j t
  pub composed_row : RowCut line parts m

-- as it is noted: it is no composition
pub record NotedFits (line parts : List ℕ) (masses : List ℤ) (m k j t : ℕ) : Type 0 where
  pub fits : RowFits line parts masses m k j t
  pub plain : is_composed parts m ≡ false
  pub room : t + (text_to_field parts m - text_from_field parts m + label_length parts m) ≤ line_limit

pub record RowPut (line parts : List ℕ) (masses : List ℤ) (m k j t : ℕ) (bytes : List ℕ) (numbers : List ℤ) (r : ℕ) (bytes' : List ℕ) (numbers' : List ℤ) : Type 0 where
  pub texts_are : r ≡ t + (text_length line parts m + label_length parts m)
  pub bytes_are : bytes' ≡ sets (sets bytes (texts_at + t) (texts_from line parts m)) (part_at k j) (row_from line parts m t)
  pub numbers_are : numbers' ≡ set numbers (mass_at k j) (mass_put line parts masses m)

-- ---- parts
-- row m is of a part that keeps to the limits and can be cut, and p is what is kept of it
pub record PartNoted (line parts : List ℕ) (masses : List ℤ) (m : ℕ) (p : Part ℕ) : Type 0 where
  pub read : Part ℕ
  pub fields : PartIs parts m read
  pub mass_is : get_or masses m (pos 0) ≡ mass_noted read.value
  pub stands : Stands line read
  pub within : PartWithin read
  pub cut : is_uncut read ≡ false
  pub keeps : p ≡ kept_part read

-- the rows from m on are of these
abbrev pub PartsNoted : List ℕ → List ℕ → List ℤ → ℕ → List (Part ℕ) → Type 0
PartsNoted line parts masses m ps = (us : List (Part ℕ)) (p : Part ℕ) (vs : List (Part ℕ)) → ps ≡ us ++ (p ∷ vs) → PartNoted line parts masses (m + length us) p

-- they fit as the parts of bracket k, behind its head
pub record PartsFit (line parts : List ℕ) (masses : List ℤ) (m n k t : ℕ) (ps : List (Part ℕ)) (a : Pieces) (bytes : List ℕ) (numbers : List ℤ) : Type 0 where
  pub many : n ≡ length ps
  pub noted : PartsNoted line parts masses m ps
  pub few_rows : m + n ≤ masses_room
  pub few_brackets_lem : k < bracket_limit
  pub few_parts_lem : n ≤ part_limit
  pub texts_room : t + length (flat packed ps) ≤ line_limit
  pub areas_are : AreasAre a (k * row_size + head_size) t (k * number_row_size) bytes numbers

pub record SomePartsFit (line parts : List ℕ) (masses : List ℤ) (m n k t : ℕ) (bytes : List ℕ) (numbers : List ℤ) : Type 0 where
  pub these : List (Part ℕ)
  pub pieces : Pieces
  pub fit : PartsFit line parts masses m n k t these pieces bytes numbers

pub record PartsPut (k t : ℕ) (ps : List (Part ℕ)) (a : Pieces) (r : ℕ) (bytes' : List ℕ) (numbers' : List ℤ) : Type 0 where
  pub texts_are : r ≡ t + length (flat packed ps)
  pub areas_are : AreasAre (parts_added t ps a) (k * row_size + head_size + length ps * part_size) r (k * number_row_size + length ps) bytes' numbers'
