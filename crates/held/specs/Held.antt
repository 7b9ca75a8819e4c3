-- What of the sheet the areas hold, piece by piece: in front of the rows, a part, a bracket with and without its parts, and zeros behind all.
use Rattle.std.specs.Prelude.{◌≡◌, Option, Some, None, List, [], ◌∷◌, ℕ, ◌+◌, ◌-◌, ◌*◌, ◌<◌, ◌≤◌, ℤ, pos, length, get_or, replicate}
use Rattle.scope.specs.Limits.{line_limit, residue_limit, bracket_limit, part_limit}
use Rattle.scope.specs.Line.{Bracket}
use Rattle.scope.specs.Lists.{padded}
use Rattle.scope.specs.Layout.{part_size, row_size, number_row_size, residues_at, letters_at, sections_at, texts_at, row_at, part_at, mass_at, bracket_row, bracket_texts, number_row, score_number}
use Rattle.layout_laws.specs.At.{At}
use Rattle.store.specs.PartPut.{text_length, label_length, texts_from, row_from, mass_put}
use Rattle.store.specs.BracketPut.{head_from, BracketNoted}

-- ---- in front of the rows: the numbers of residues and brackets, then letters and sections
pub record FrontHeld (counts letters sections : List ℕ) (bytes : List ℕ) : Type 0 where
  pub counts_at : At bytes residues_at counts
  pub letters_at_is : At bytes letters_at (padded 0 residue_limit letters)
  pub sections_at_is : At bytes sections_at (padded 0 residue_limit sections)

-- ---- rows from a place on, texts behind t others, numbers from a place on
pub record HeldFrom (bytes : List ℕ) (numbers : List ℤ) (row t number : ℕ) (rows texts : List ℕ) (masses : List ℤ) : Type 0 where
  pub rows_at_is : At bytes row rows
  pub texts_at_lem : At bytes (texts_at + t) texts
  pub masses_at : At numbers number masses

-- ---- row m as part j of bracket k
abbrev pub PartHeld : List ℕ → List ℕ → List ℤ → ℕ → ℕ → ℕ → ℕ → List ℕ → List ℤ → Type 0
PartHeld line parts masses m k j t bytes numbers =
    HeldFrom bytes numbers (part_at k j) t (mass_at k j) (row_from line parts m t) (texts_from line parts m) (mass_put line parts masses m ∷ [])

-- how many bytes of texts there are then, where it is held
abbrev pub Gives : Option ℕ → ℕ → Type 0 → Type 0
Gives None n A = A → ⊥
Gives (Some u) n A = (u ≡ n) × A

abbrev pub PartSeen : List ℕ → List ℕ → List ℤ → ℕ → ℕ → ℕ → ℕ → List ℕ → List ℤ → Option ℕ → Type 0
PartSeen line parts masses m k j t bytes numbers r = Gives r (t + (text_length line parts m + label_length parts m)) (PartHeld line parts masses m k j t bytes numbers)

-- ---- what bracket k has beside its n parts
pub record FrameHeld (heads : List ℕ) (scores : List ℤ) (k n : ℕ) (bytes : List ℕ) (numbers : List ℤ) : Type 0 where
  pub head_at_lem : At bytes (row_at k) (head_from heads k)
  pub rows_zero : At bytes (part_at k n) (replicate ((part_limit - n) * part_size) 0)
  pub masses_zero : At numbers (mass_at k n) (replicate (part_limit - n) (pos 0))
  pub score_is : score_number numbers k ≡ get_or scores k (pos 0)

-- ---- bracket k
-- it is noted, and there is room for it, its texts behind t others
pub record BracketThere (line heads parts : List ℕ) (masses scores : List ℤ) (k t : ℕ) (b : Bracket ℕ) : Type 0 where
  pub residues : ℕ
  pub noted : BracketNoted line heads parts masses scores residues k b
  pub few_brackets_lem : k < bracket_limit
  pub texts_room : t + length (bracket_texts b) ≤ line_limit

abbrev pub BracketHeld : ℕ → ℕ → Bracket ℕ → List ℕ → List ℤ → Type 0
BracketHeld k t b bytes numbers = HeldFrom bytes numbers (row_at k) t (mass_at k 0) (bracket_row t b) (bracket_texts b) (number_row b)

abbrev pub BracketSeen : ℕ → ℕ → Bracket ℕ → List ℕ → List ℤ → Option ℕ → Type 0
BracketSeen k t b bytes numbers r = Gives r (t + length (bracket_texts b)) (BracketHeld k t b bytes numbers)

-- ---- zeros behind n brackets and t bytes of texts
abbrev pub RestHeld : ℕ → ℕ → List ℕ → List ℤ → Type 0
RestHeld n t bytes numbers =
    HeldFrom bytes numbers (row_at n) t (n * number_row_size) (replicate ((bracket_limit - n) * row_size) 0) (replicate (line_limit - t) 0) (replicate ((bracket_limit - n) * number_row_size) (pos 0))
