-- What each step of the writer puts, and how many bytes that is at most.
use Rattle.std.specs.Prelude.{◌≡◌, List, [], ◌∷◌, ◌++◌, ℕ, ◌+◌, ◌*◌, ◌≤◌, length, take, drop, cond, eqb}
use Rattle.std.proofs.Math.Option.{Option}
use Rattle.scope.specs.Bytes.{open_round, shut_round}
use Rattle.scope.specs.Limits.{residue_limit, bracket_limit, part_limit, place_limit, text_limit, label_limit}
use Rattle.scope.specs.Line.{Number}
use Rattle.scope.specs.Lists.{given, part}
use Rattle.scope.specs.Layout.{texts_at, text_field, offset_field}
use Rattle.scope.specs.Canonical.{score_text}
use Rattle.figures.specs.Written.{ceiling, number_most, count_most}
use Rattle.spelling.specs.Widths.{key_most, site_most}

-- ---- how many bytes each piece has at most, of any tables within bounds
-- a mass or a text: no more than the two together
abbrev pub value_most : ℕ
value_most = number_most + text_limit

-- a score between `(` and `)`
abbrev pub score_most : ℕ
score_most = 1 + (number_most + 1)

-- `#`, a label and its score
abbrev pub label_most : ℕ
label_most = 1 + (label_limit + score_most)

-- a part, alone and with `|` before it; the parts of a bracket
abbrev pub part_most : ℕ
part_most = key_most + (value_most + label_most)

abbrev pub next_most : ℕ
next_most = 1 + part_most

abbrev pub parts_most : ℕ
parts_most = next_most * part_limit

-- a bracket between its two bytes
abbrev pub between_most : ℕ
between_most = 1 + (parts_most + 1)

-- a place with `,` before it; the places of a declaration; a declaration: `<`, its bracket, `@`, its places and `>`
abbrev pub next_place_most : ℕ
next_place_most = 1 + site_most

abbrev pub places_most : ℕ
places_most = next_place_most * place_limit

abbrev pub declared_most : ℕ
declared_most = 1 + (between_most + (1 + (places_most + 1)))

-- a bracket with its count, or a declaration: no more than the two together; all brackets
abbrev pub bracket_most : ℕ
bracket_most = declared_most + count_most

abbrev pub brackets_most : ℕ
brackets_most = bracket_most * bracket_limit

-- what a residue has outside its brackets: `(?`, its letter and `)`; all residues
abbrev pub residue_most : ℕ
residue_most = 4

abbrev pub residues_most : ℕ
residues_most = residue_most * residue_limit

-- what stands before the sequence, outside brackets: `?` and `-`
abbrev pub front_most : ℕ
front_most = 2

-- the canonical line: besides all these `-` before the C-terminus
abbrev pub line_most : ℕ
line_most = brackets_most + (residues_most + (front_most + 1))

-- ---- what is written
-- the text of part j of bracket k
abbrev pub text_at : List ℕ → ℕ → ℕ → List ℕ
text_at bs k j = part (texts_at + offset_field bs k j) (text_field bs k j) bs

-- a score in its round brackets, where there is one
abbrev pub scored_text : {P : Type 0} → Option (Number P) → List ℕ
scored_text n = given n (λ s. open_round ∷ (score_text s ++ (shut_round ∷ []))) []

-- the text t of number j in a row that is split by the byte b: b stands before all but the first
abbrev pub next_text : ℕ → ℕ → List ℕ → List ℕ
next_text b j t = cond (eqb j 0) t (b ∷ t)

-- "Success leaves output past the written bytes .. unchanged"; of an output that is too short, as much as fits, and the length that is needed
pub record WholeLine (c o left : List ℕ) (r : ℕ) : Type 0 where
  pub long : r ≡ length c
  pub holds : left ≡ take (length o) c ++ drop (length c) o
  pub low : r ≤ ceiling
