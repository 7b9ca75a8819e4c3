-- The areas piece by piece: what they hold so far of a line's tables, each piece filled up with zeros.
use Rattle.std.specs.Prelude.{◌≡◌, List, ◌++◌, map, ℕ, ◌*◌, ℤ, pos, length}
use Rattle.scope.specs.Limits.{line_limit, residue_limit, bracket_limit}
use Rattle.scope.specs.Line.{Part, Bracket}
use Rattle.scope.specs.Lists.{flat, padded}
use Rattle.scope.specs.Layout.{row_size, numbers_size, rows_at, mass_in, packed, part_rows, bracket_row, bracket_texts, rows, number_row}

-- the numbers of residues and brackets, then letters and sections
abbrev pub front_with : List ℕ → List ℕ → List ℕ → List ℕ
front_with counts letters sections = counts ++ (padded 0 residue_limit letters ++ padded 0 residue_limit sections)

abbrev pub area_with : List ℕ → List ℕ → List ℕ → List ℕ → List ℕ
area_with front rows texts past = front ++ (padded 0 (bracket_limit * row_size) rows ++ (padded 0 line_limit texts ++ past))

abbrev pub numbers_with : List ℤ → List ℤ → List ℤ
numbers_with masses beyond = padded (pos 0) numbers_size masses ++ beyond

-- in front of the rows, the rows, the texts, what is past the tables; the masses and scores, what is past them
pub record Pieces : Type 0 where
  pub front : List ℕ
  pub rows : List ℕ
  pub texts : List ℕ
  pub past : List ℕ
  pub masses : List ℤ
  pub beyond : List ℤ

-- the areas are these pieces, with so many bytes of rows, bytes of texts, and numbers
pub record AreasAre (a : Pieces) (row text number : ℕ) (bytes : List ℕ) (numbers : List ℤ) : Type 0 where
  pub front_long : length a.front ≡ rows_at
  pub rows_long : length a.rows ≡ row
  pub texts_long : length a.texts ≡ text
  pub masses_long : length a.masses ≡ number
  pub bytes_are : bytes ≡ area_with a.front a.rows a.texts a.past
  pub numbers_are : numbers ≡ numbers_with a.masses a.beyond

-- a bracket's head behind them
abbrev pub head_added : List ℕ → Pieces → Pieces
head_added head a =
    record { front = a.front; rows = a.rows ++ head; texts = a.texts; past = a.past; masses = a.masses; beyond = a.beyond }

-- parts behind them, and behind t bytes of texts
abbrev pub parts_added : ℕ → List (Part ℕ) → Pieces → Pieces
parts_added t ps a =
    record {
      front = a.front;
      rows = a.rows ++ part_rows t ps;
      texts = a.texts ++ flat packed ps;
      past = a.past;
      masses = a.masses ++ map (λ p. mass_in p.value) ps;
      beyond = a.beyond;
    }

-- a whole bracket, likewise
abbrev pub bracket_added : ℕ → Bracket ℕ → Pieces → Pieces
bracket_added t b a =
    record {
      front = a.front;
      rows = a.rows ++ bracket_row t b;
      texts = a.texts ++ bracket_texts b;
      past = a.past;
      masses = a.masses ++ number_row b;
      beyond = a.beyond;
    }

-- brackets where there are none yet
abbrev pub brackets_added : List (Bracket ℕ) → Pieces → Pieces
brackets_added ks a =
    record {
      front = a.front;
      rows = a.rows ++ rows 0 ks;
      texts = a.texts ++ flat bracket_texts ks;
      past = a.past;
      masses = a.masses ++ flat number_row ks;
      beyond = a.beyond;
    }
