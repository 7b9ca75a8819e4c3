-- How the tables of a line that keeps to the limits lie in the two lent areas, and that they are read back from there. Each law is proved in the file that
-- it cites.
use Rattle.std.specs.Prelude.{◌≡◌, true, ◌↔◌, List, ℕ, ◌≤◌, ◌<◌, ℤ, length, take, drop}
use Rattle.std.proofs.Common.{sym, ap, ap₂, ◌∙◌, append-nil, arith, length-append, length-drop, take_at}
use Rattle.scope.specs.Lists.{laid}
use Rattle.scope.specs.Bytes.{byte_limit}
use Rattle.scope.specs.Limits.{row_limit}
use Rattle.scope.specs.Line.{Line}
use Rattle.scope.specs.Refusals.{accepted, outcome}
use Rattle.scope.specs.Canonical.{canonical}
use Rattle.scope.specs.Tables.{tables_of}
use Rattle.scope.specs.Layout.{bytes_of, numbers_of, bytes_size, numbers_size, byte_at, tables_in}
use Rattle.scope.specs.Positions.{rows_of}
use Rattle.scope.specs.Answers.{same_numbers, are_tables}
use Rattle.areas.specs.Bounds.{Bounds}
use Rattle.basics.specs.Each.{Each}
use Rattle.accepted_laws.specs.Within.{Byte, Within}
use Rattle.reading_laws.proofs.Bare.{same_bytes, same_numbers_lem}
use Rattle.layout_laws.proofs.Holds.{Holds}
use Rattle.layout_laws.proofs.LayoutLaws
use Rattle.layout_laws.proofs.Bounded
use Rattle.layout_laws.proofs.RowsFit
use Rattle.layout_laws.proofs.Same

-- ---- the areas of a line
laid_length : {A : Type 0} (l old : List A) → length l ≤ length old → length (laid l old) ≡ length old
laid_length l old h =
    let a = length-append l (drop (length l) old) in
    let b = length-drop (length l) old in
    omega arith

module _ {P : Type 0} (l : Line P) (within : Within l) where
  -- "Lent areas have the fixed sizes these give"
  pub bytes_fill : length (bytes_of l) ≡ bytes_size
  bytes_fill = LayoutLaws.bytes_length l within

  pub numbers_fill : length (numbers_of l) ≡ numbers_size
  numbers_fill = LayoutLaws.numbers_length l within

  pub bytes_are_bytes : Each Byte (bytes_of l)
  bytes_are_bytes = Bounded.bytes_are_bytes l within

  pub byte_below : (i : ℕ) → byte_at (bytes_of l) i < byte_limit
  byte_below i = Bounded.byte_below l within i

  -- "room is 2,048 rows"
  pub rows_fit : length (rows_of l) ≤ row_limit
  rows_fit = RowsFit.rows_fit l within

  -- the tables are read back, whatever stands behind them
  pub tables_back : (bs : List ℕ) (ns : List ℤ) → tables_in (laid (bytes_of l) bs) (laid (numbers_of l) ns) ≡ tables_of l
  tables_back bs ns = LayoutLaws.tables_back l within (drop (length (bytes_of l)) bs) (drop (length (numbers_of l)) ns)

  pub tables_exact : tables_in (bytes_of l) (numbers_of l) ≡ tables_of l
  tables_exact = ap₂ tables_in (sym (append-nil (bytes_of l))) (sym (append-nil (numbers_of l))) ∙ LayoutLaws.tables_back l within _ _

  pub laid_bounds : (bs : List ℕ) (ns : List ℤ) → Bounds (laid (bytes_of l) bs) (laid (numbers_of l) ns)
  laid_bounds bs ns = Bounded.bounds l within (drop (length (bytes_of l)) bs) (drop (length (numbers_of l)) ns)

  -- the areas after reading begin with the tables and are as long as they were
  pub laid_bytes : (bs : List ℕ) → take bytes_size (laid (bytes_of l) bs) ≡ bytes_of l
  laid_bytes bs = take_at (bytes_of l) (drop (length (bytes_of l)) bs) bytes_size bytes_fill

  pub laid_numbers : (ns : List ℤ) → take numbers_size (laid (numbers_of l) ns) ≡ numbers_of l
  laid_numbers ns = take_at (numbers_of l) (drop (length (numbers_of l)) ns) numbers_size numbers_fill

  pub laid_bytes_length : (bs : List ℕ) → bytes_size ≤ length bs → length (laid (bytes_of l) bs) ≡ length bs
  laid_bytes_length bs h = laid_length (bytes_of l) bs (rw bytes_fill h)

  pub laid_numbers_length : (ns : List ℤ) → numbers_size ≤ length ns → length (laid (numbers_of l) ns) ≡ length ns
  laid_numbers_length ns h = laid_length (numbers_of l) ns (rw numbers_fill h)

-- ---- the areas and the tables determine each other
pub areas_determine :
    {P Q : Type 0} (l : Line P) (m : Line Q) → Within l → Within m → ((bytes_of l ≡ bytes_of m) × (numbers_of l ≡ numbers_of m)) ↔
    (tables_of l ≡ tables_of m)
areas_determine l m w v = (
  (λ e. sym (tables_exact l w) ∙ ap₂ tables_in e.0 e.1 ∙ tables_exact m v),
  λ e. (sym (same_bytes l) ∙ ap bytes_of e ∙ same_bytes m, sym (same_numbers_lem l) ∙ ap numbers_of e ∙ same_numbers_lem m),
)

-- ---- refusal 14
pub same_numbers_law : (x y : List ℤ) → (same_numbers x y ≡ true) ↔ (x ≡ y)
same_numbers_law x y = Same.same_numbers_law x y

-- areas that are tables hold the tables of an accepted line: of the canonical line of what they hold
pub tables_held : (bs : List ℕ) (ns : List ℤ) → are_tables bs ns ≡ true → (l : Line ℕ) × Holds bs ns (canonical (tables_in bs ns)) l
tables_held bs ns e = Same.tables_held bs ns e

-- so do areas that begin with those of an accepted line
pub accepted_held :
    (bs : List ℕ) (ns : List ℤ) (s : List ℕ) (l : Line ℕ) → outcome s ≡ accepted l → take bytes_size bs ≡ bytes_of l → take numbers_size ns ≡ numbers_of l
    → Holds bs ns s l
accepted_held bs ns s l e f g = Same.holds_of bs ns s l e f g
