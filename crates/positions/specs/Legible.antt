-- What readings of labels and positions ask of the area of bytes.
use Rattle.std.specs.Prelude.{ℕ, ◌+◌, ◌≤◌, ◌<◌, ◌≡◌, List, ℤ, length}
use Rattle.std.proofs.Common.{arith}
use Rattle.scope.specs.Limits.{residue_limit, bracket_limit, position_limit}
use Rattle.scope.specs.Layout.{bytes_size, texts_at, brackets_field, first_field, label_field, last_field, offset_field, parts_field, residues_field, text_field}
use Rattle.areas.specs.Bounds.{Bounds}
use Rattle.brackets.specs.Row.{Row, row}

-- where the label of part j of bracket k begins, behind the part's text
abbrev pub label_from : List ℕ → ℕ → ℕ → ℕ
label_from bs k j = texts_at + offset_field bs k j + text_field bs k j

-- bracket k, with its labels inside the area
pub record LabelsInside (bs : List ℕ) (k : ℕ) : Type 0 where
  pub row : Row bs k
  pub inside : (j : ℕ) → j < parts_field bs k → label_from bs k j + label_field bs k j ≤ length bs

-- bracket k, with its positions among those of the line
pub record PositionsInside (bs : List ℕ) (k : ℕ) : Type 0 where
  pub named : LabelsInside bs k
  pub first : first_field bs k ≤ residues_field bs + 1
  pub last : last_field bs k ≤ residues_field bs + 1

pub record Legible (bs : List ℕ) : Type 0 where
  pub room : bytes_size ≤ length bs
  pub few_residues : residues_field bs ≤ residue_limit
  pub few_brackets_lem : brackets_field bs ≤ bracket_limit
  pub bracket : (k : ℕ) → k < brackets_field bs → PositionsInside bs k

-- where bracket k is read, and the positions that are read of it, are within their limits
module _ {bs : List ℕ} (l : Legible bs) {k : ℕ} (h : k < brackets_field bs) where
  pub row_of : Row bs k
  row_of = (l.bracket k h).named.row

  pub row_room : (bytes_size ≤ length bs) × (k < bracket_limit)
  row_room = (row_of.room, row_of.inside)

  pub first_within : {x : ℕ} → x ≡ first_field bs k → x < position_limit
  first_within e = omega (arith, e, l.few_residues, (l.bracket k h).first)

  pub last_within : {x : ℕ} → x ≡ last_field bs k → x < position_limit
  last_within e = omega (arith, e, l.few_residues, (l.bracket k h).last)

pub residues_within : {bs : List ℕ} {n : ℕ} → Legible bs → n ≡ residues_field bs → n < position_limit
residues_within l e = omega (arith, e, l.few_residues)

-- so are tables that keep to their bounds
named : {bs : List ℕ} {ns : List ℤ} → Bounds bs ns → (k : ℕ) → k < brackets_field bs → LabelsInside bs k
named b k h =
    record {
      row = row b k h;
      inside = λ j l. omega (arith, b.bytes_room, ((b.bracket k h).part j l).inside);
    }

pub legible : {bs : List ℕ} {ns : List ℤ} → Bounds bs ns → Legible bs
legible b =
    record {
      room = b.bytes_room;
      few_residues = b.few_residues;
      few_brackets_lem = b.few_brackets_lem;
      bracket = λ k h. record { named = named b k h; first = (b.bracket k h).first; last = (b.bracket k h).last };
    }
