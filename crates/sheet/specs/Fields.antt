-- The fields of the rows, whatever the tables hold, and the rows that are put.
use Rattle.std.specs.Prelude.{◌≡◌, List, [], ◌∷◌, ℕ, ◌+◌, ◌*◌, ◌<◌, min, length, get_or}
use Rattle.scope.specs.Bytes.{wide_limit}
use Rattle.scope.specs.Limits.{count_limit}
use Rattle.scope.specs.Line.{Part, Bracket}
use Rattle.scope.specs.Keys.{key_code}
use Rattle.scope.specs.Kinds.{kind_code}
use Rattle.scope.specs.Layout.{value_code}
use Rattle.scope.specs.Modifications.{names_of}
use Rattle.scope.specs.Tables.{score_of}
use Rattle.sheet.specs.Rows.{text_from, text_to, label_from, label_to, decimals_noted, part_fields, sort_of, counted_code, score_noted, places_from, head_fields}
use Rattle.sheet.specs.declared.Head.{Head}

-- ---- bracket k
abbrev pub kind_at : ℕ → ℕ
kind_at k = k * head_fields + 1

abbrev pub count_at : ℕ → ℕ
count_at k = k * head_fields + 3

abbrev pub place_field : List ℕ → ℕ → ℕ
place_field heads k = get_or heads (k * head_fields) 0

abbrev pub kind_field : List ℕ → ℕ → ℕ
kind_field heads k = get_or heads (kind_at k) 0

abbrev pub sort_field : List ℕ → ℕ → ℕ
sort_field heads k = get_or heads (k * head_fields + 2) 0

abbrev pub count_field : List ℕ → ℕ → ℕ
count_field heads k = get_or heads (count_at k) 0

-- 1 where its count is written, else 0
abbrev pub counted_field : List ℕ → ℕ → ℕ
counted_field heads k = get_or heads (k * head_fields + 4) 0

abbrev pub written_count : ℕ
written_count = 1

abbrev pub first_field : List ℕ → ℕ → ℕ
first_field heads k = get_or heads (k * head_fields + 5) 0

abbrev pub last_field : List ℕ → ℕ → ℕ
last_field heads k = get_or heads (k * head_fields + 6) 0

abbrev pub parts_field : List ℕ → ℕ → ℕ
parts_field heads k = get_or heads (k * head_fields + 7) 0

abbrev pub labels_field : List ℕ → ℕ → ℕ
labels_field heads k = get_or heads (k * head_fields + 8) 0

abbrev pub base_field : List ℕ → ℕ → ℕ
base_field heads k = get_or heads (k * head_fields + 9) 0

abbrev pub score_field : List ℕ → ℕ → ℕ
score_field heads k = get_or heads (k * head_fields + 10) 0

abbrev pub places_at : ℕ → ℕ
places_at k = k * head_fields + 11

abbrev pub places_field : List ℕ → ℕ → ℕ
places_field heads k = get_or heads (places_at k) 0

abbrev pub many_field : List ℕ → ℕ → ℕ
many_field heads k = get_or heads (k * head_fields + 12) 0

-- row i is of this bracket, whose first part has this number
pub record HeadIs (heads : List ℕ) (i base : ℕ) (k : Bracket ℕ) : Type 0 where
  pub place : place_field heads i ≡ k.at
  pub kind : kind_field heads i ≡ kind_code k.kind
  pub sort : sort_field heads i ≡ sort_of k
  pub count : count_field heads i ≡ min (count_limit + 1) k.count
  pub counted : counted_field heads i ≡ counted_code k.counted
  pub first : first_field heads i ≡ k.first
  pub last : last_field heads i ≡ k.last
  pub parts : parts_field heads i ≡ length k.parts
  pub labels : labels_field heads i ≡ length (names_of k)
  pub base_is : base_field heads i ≡ base
  pub score : score_field heads i ≡ score_noted (score_of k.parts)
  pub places : places_field heads i ≡ places_from k.places
  pub many : many_field heads i ≡ length k.places

-- ---- part m
abbrev pub label_at : ℕ → ℕ
label_at m = m * part_fields + 5

abbrev pub value_field : List ℕ → ℕ → ℕ
value_field parts m = get_or parts (m * part_fields) 0

abbrev pub key_field : List ℕ → ℕ → ℕ
key_field parts m = get_or parts (m * part_fields + 1) 0

abbrev pub decimals_field : List ℕ → ℕ → ℕ
decimals_field parts m = get_or parts (m * part_fields + 2) 0

abbrev pub text_from_field : List ℕ → ℕ → ℕ
text_from_field parts m = get_or parts (m * part_fields + 3) 0

abbrev pub text_to_field : List ℕ → ℕ → ℕ
text_to_field parts m = get_or parts (m * part_fields + 4) 0

abbrev pub label_from_field : List ℕ → ℕ → ℕ
label_from_field parts m = get_or parts (label_at m) 0

abbrev pub label_to_field : List ℕ → ℕ → ℕ
label_to_field parts m = get_or parts (m * part_fields + 6) 0

-- row m is of this part
pub record PartIs (parts : List ℕ) (m : ℕ) (p : Part ℕ) : Type 0 where
  pub value : value_field parts m ≡ value_code p.value
  pub key : key_field parts m ≡ key_code p.key
  pub decimals : decimals_field parts m ≡ decimals_noted p.value
  pub text_from_is : text_from_field parts m ≡ text_from p p.value
  pub text_to_is : text_to_field parts m ≡ text_to p p.value
  pub label_from_is : label_from_field parts m ≡ label_from p
  pub label_to_is : label_to_field parts m ≡ label_to p

-- ---- the rows that are put
-- a bracket, once, with no count written and no places
abbrev pub head_row : Head → List ℕ
head_row h =
    h.place ∷ h.kind ∷ h.sort ∷ 1 ∷ 0 ∷ h.first ∷ h.last ∷ h.parts ∷ h.labels ∷ h.base ∷ h.score ∷ 0 ∷ 0 ∷ []

-- a part with no label
abbrev pub part_row : ℕ → ℕ → ℕ → ℕ → ℕ → List ℕ
part_row value key decimals from to = value ∷ key ∷ decimals ∷ from ∷ to ∷ 0 ∷ 0 ∷ []

-- each number fits its field
pub record HeadFits (h : Head) : Type 0 where
  pub place : h.place < wide_limit
  pub kind : h.kind < wide_limit
  pub sort : h.sort < wide_limit
  pub first : h.first < wide_limit
  pub last : h.last < wide_limit
  pub parts : h.parts < wide_limit
  pub labels : h.labels < wide_limit
  pub base : h.base < wide_limit
  pub score : h.score < wide_limit
