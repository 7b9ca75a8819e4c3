-- What the row of a bracket in the sheet puts into the areas, and the same of what is kept of the bracket that the row is of.
use Rattle.std.specs.Prelude.{◌≡◌, List, ◌∷◌, ◌++◌, map, ℕ, ◌+◌, ◌*◌, ◌<◌, ◌≤◌, ℤ, pos, length, get_or}
use Rattle.scope.specs.Bytes.{byte_limit}
use Rattle.scope.specs.Limits.{line_limit, residue_limit, bracket_limit, place_limit, position_limit}
use Rattle.scope.specs.Kept.{kept_bracket}
use Rattle.scope.specs.Line.{Place, Bracket}
use Rattle.scope.specs.Lists.{flat}
use Rattle.scope.specs.Tables.{score_of}
use Rattle.scope.specs.Layout.{row_size, number_row_size, head_row, bracket_texts}
use Rattle.accepted_laws.specs.Within.{BracketWithin}
use Rattle.sheet.specs.Rows.{masses_room, points_noted, PlacesStand}
use Rattle.sheet.specs.Fields.{kind_field, first_field, last_field, count_field, parts_field, score_field, HeadIs}
use Rattle.sites.specs.Says.{Stand}
use Rattle.store.specs.Areas.{Pieces, AreasAre, bracket_added, brackets_added}
use Rattle.store.specs.PartPut.{PartsNoted}

-- ---- row k
abbrev pub head_from : List ℕ → ℕ → List ℕ
head_from heads k =
    head_row (kind_field heads k) (first_field heads k) (last_field heads k) (count_field heads k) (parts_field heads k) (score_field heads k)

pub record HeadGoesIn (heads : List ℕ) (k : ℕ) : Type 0 where
  pub few_brackets_lem : k < bracket_limit
  pub kind_byte : kind_field heads k < byte_limit
  pub first_few : first_field heads k < position_limit
  pub last_few : last_field heads k < position_limit
  pub count_byte : count_field heads k < byte_limit
  pub parts_byte : parts_field heads k < byte_limit
  pub score_byte : score_field heads k < byte_limit

-- ---- places
-- how many, then the site of each
abbrev pub places_put : List (Place ℕ) → List ℕ
places_put ps = length ps ∷ map (λ p. p.site) ps

-- n places stand in the line from a place on, and fit as those of bracket k
pub record PlacesFit (line : List ℕ) (at n k : ℕ) (ps : List (Place ℕ)) : Type 0 where
  pub many : n ≡ length ps
  pub few : n ≤ place_limit
  pub next : ℕ
  pub stand : Stand line at ps next
  pub few_brackets_lem : k < bracket_limit

-- ---- a bracket
-- row k is of a bracket of a line with n residues, and b is what is kept of it
pub record BracketNoted (line heads parts : List ℕ) (masses scores : List ℤ) (n k : ℕ) (b : Bracket ℕ) : Type 0 where
  pub base : ℕ
  pub read : Bracket ℕ
  pub keeps : b ≡ kept_bracket read
  pub fields : HeadIs heads k base read
  pub score_is : get_or scores k (pos 0) ≡ points_noted (score_of read.parts)
  pub parts_are : PartsNoted line parts masses base b.parts
  pub few_rows : base + length b.parts ≤ masses_room
  pub placed : PlacesStand line b.places
  pub within : BracketWithin n b

-- it fits behind k others, and behind t bytes of texts
pub record BracketGoesIn (line heads parts : List ℕ) (masses scores : List ℤ) (k t : ℕ) (b : Bracket ℕ) (a : Pieces) (bytes : List ℕ) (numbers : List ℤ) : Type 0 where
  pub residues : ℕ
  pub few_residues : residues ≤ residue_limit
  pub noted : BracketNoted line heads parts masses scores residues k b
  pub few_brackets_lem : k < bracket_limit
  pub texts_room : t + length (bracket_texts b) ≤ line_limit
  pub areas_are : AreasAre a (k * row_size) t (k * number_row_size) bytes numbers

pub record SomeBracketFits (line heads parts : List ℕ) (masses scores : List ℤ) (k t : ℕ) (bytes : List ℕ) (numbers : List ℤ) : Type 0 where
  pub this : Bracket ℕ
  pub pieces : Pieces
  pub fits : BracketGoesIn line heads parts masses scores k t this pieces bytes numbers

pub record BracketPut (k t : ℕ) (b : Bracket ℕ) (a : Pieces) (r : ℕ) (bytes' : List ℕ) (numbers' : List ℤ) : Type 0 where
  pub texts_are : r ≡ t + length (bracket_texts b)
  pub areas_are : AreasAre (bracket_added t b a) ((k + 1) * row_size) r ((k + 1) * number_row_size) bytes' numbers'

-- ---- brackets
-- the first rows are of these
abbrev pub BracketsNoted : List ℕ → List ℕ → List ℕ → List ℤ → List ℤ → ℕ → List (Bracket ℕ) → Type 0
BracketsNoted line heads parts masses scores n ks =
    (xs : List (Bracket ℕ)) (b : Bracket ℕ) (ys : List (Bracket ℕ)) → ks ≡ xs ++ (b ∷ ys) → BracketNoted line heads parts masses scores n (length xs) b

-- they fit where there are none yet
pub record BracketsFit (line heads parts : List ℕ) (masses scores : List ℤ) (n : ℕ) (ks : List (Bracket ℕ)) (a : Pieces) (bytes : List ℕ) (numbers : List ℤ) : Type 0 where
  pub many : n ≡ length ks
  pub residues : ℕ
  pub few_residues : residues ≤ residue_limit
  pub noted : BracketsNoted line heads parts masses scores residues ks
  pub few_brackets_lem : n ≤ bracket_limit
  pub texts_room : length (flat bracket_texts ks) ≤ line_limit
  pub areas_are : AreasAre a 0 0 0 bytes numbers

pub record SomeBracketsFit (line heads parts : List ℕ) (masses scores : List ℤ) (n : ℕ) (bytes : List ℕ) (numbers : List ℤ) : Type 0 where
  pub these : List (Bracket ℕ)
  pub pieces : Pieces
  pub fit : BracketsFit line heads parts masses scores n these pieces bytes numbers

pub record BracketsPut (ks : List (Bracket ℕ)) (a : Pieces) (bytes' : List ℕ) (numbers' : List ℤ) : Type 0 where
  pub areas_are : AreasAre (brackets_added ks a) (length ks * row_size) (length (flat bracket_texts ks)) (length ks * number_row_size) bytes' numbers'
