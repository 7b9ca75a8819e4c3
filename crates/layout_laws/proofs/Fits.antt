-- Each limit is below what the field that holds it can hold: a byte, or two bytes.
use Rattle.std.specs.Prelude.{ℕ, ◌+◌, ◌*◌, ◌≤◌, ◌<◌}
use Rattle.std.proofs.Common.{arith}
use Rattle.scope.specs.Bytes.{byte_limit, wide_limit}
use Rattle.scope.specs.Limits.{line_limit, residue_limit, bracket_limit, part_limit, text_limit, label_limit, decimal_limit, count_limit, place_limit, copy_limit, row_limit, position_limit}

-- ---- in two bytes: the number of residues, a position, a place among the texts
pub residues_fit : {n : ℕ} → n ≤ residue_limit → n < wide_limit
residues_fit h = omega arith

pub positions_fit : {n i : ℕ} → n ≤ residue_limit → i ≤ n + 1 → i < wide_limit
positions_fit h k = omega arith

pub offsets_fit : {i : ℕ} → i ≤ line_limit → i < wide_limit
offsets_fit h = omega arith

-- ---- in a byte: the numbers of brackets, parts and places, a count, a number of decimals, the lengths of text and label
pub brackets_fit : {n : ℕ} → n ≤ bracket_limit → n < byte_limit
brackets_fit h = omega arith

pub parts_fit : {n : ℕ} → n ≤ part_limit → n < byte_limit
parts_fit h = omega arith

pub places_fit : {n : ℕ} → n ≤ place_limit → n < byte_limit
places_fit h = omega arith

pub counts_fit : {n : ℕ} → n ≤ count_limit → n < byte_limit
counts_fit h = omega arith

pub decimals_fit : {n : ℕ} → n ≤ decimal_limit → n < byte_limit
decimals_fit h = omega arith

pub scores_fit : {n : ℕ} → n ≤ decimal_limit + 1 → n < byte_limit
scores_fit h = omega arith

pub texts_fit : {n : ℕ} → n ≤ text_limit → n < byte_limit
texts_fit h = omega arith

pub labels_fit : {n : ℕ} → n ≤ label_limit → n < byte_limit
labels_fit h = omega arith

-- ---- the rows that are handed out: so many floaters, each with so many positions
pub rows_room : copy_limit * position_limit ≤ row_limit
rows_room = omega arith
