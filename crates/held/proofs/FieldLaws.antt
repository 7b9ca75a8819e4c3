-- The fields of a row, compared one by one, tell whether the row stands in the area: a byte is its field, and the two bytes of a number are given by it, as they are bytes.
use mathlib.Core.Path.{◌≡◌, refl}
use mathlib.Core.Bool.{Bool, ◌&&◌}
use mathlib.Core.List.{List, ◌∷◌, ◌++◌}
use Prim.Native.Nat.{ℕ, ◌+◌, ◌<◌, ◌≤◌}
use native.Mathlib.Omega.{arith}
use lib.ListN.{length}
use Rattle.scope.specs.Bytes.{byte_limit}
use Rattle.scope.specs.Limits.{bracket_limit, part_limit}
use Rattle.scope.specs.Layout.{bytes_size, residues_at, brackets_at, letters_at, row_at, first_at, last_at, count_at, parts_at, score_at, part_at, two_bytes, part_fields, head_row, counts_row, byte_at, wide_at, residues_field, brackets_field, kind_field, first_field, last_field, count_field, parts_field, score_field, value_field, key_field, decimals_field, text_field, label_field, offset_field}
use Rattle.held.specs.Tells.{Tells}
use Rattle.layout_laws.specs.At.{At}
use Rattle.layout_laws.proofs.Fields.{CountsRead, HeadRead, FieldsRead, counts_read, head_read, fields_read}
use Rattle.held.proofs.Joins.{tells_as, tells_both}
use Rattle.held.proofs.Places.{at_nil, at_cons}

-- ---- rows
-- all are bytes, and there are enough of them
pub record Bytes (bs : List ℕ) : Type 0 where
  pub low : (i : ℕ) → byte_at bs i < byte_limit
  pub long : bytes_size ≤ length bs

module _ {bs : List ℕ} (w : Bytes bs) where
  at_byte : {x : ℕ} {l : List ℕ} (n o : ℕ) → o ≡ n + 1 → n < bytes_size → byte_at bs n ≡ x → At bs o l → At bs n (x ∷ l)
  at_byte {x} {l} n o e h q a = (at_cons bs 0 x n o l e (omega (arith, w.long))).on q a

  at_two : {x : ℕ} {l : List ℕ} (n o : ℕ) → o ≡ n + 2 → n + 1 < bytes_size → wide_at bs n ≡ x → At bs o l → At bs n (two_bytes x ++ l)
  at_two n o e h q a = let low = w.low n in at_byte n (n + 1) refl (omega arith) (omega arith) (at_byte (n + 1) o (omega arith) (omega arith) (omega arith) a)

  -- the numbers of residues and brackets
  counts_at : (residues brackets : ℕ) → CountsRead bs residues brackets → At bs residues_at (counts_row residues brackets)
  counts_at residues brackets r =
      at_two residues_at brackets_at refl (omega arith) r.residues_read (at_byte brackets_at letters_at refl (omega arith) r.brackets_read (at_nil bs letters_at))

  -- the head of bracket k
  head_at_lem : (k kind first last count parts score : ℕ) → k < bracket_limit → HeadRead bs k kind first last count parts score → At bs (row_at k) (head_row kind first last count parts score)
  head_at_lem k kind first last count parts score h r =
      at_byte (row_at k) (first_at k) refl (omega arith) r.kind_read
      (at_two (first_at k) (last_at k) (omega arith) (omega arith) r.first_read
      (at_two (last_at k) (count_at k) (omega arith) (omega arith) r.last_read
      (at_byte (count_at k) (parts_at k) (omega arith) (omega arith) r.count_read
      (at_byte (parts_at k) (score_at k) (omega arith) (omega arith) r.parts_read
      (at_byte (score_at k) (part_at k 0) (omega arith) (omega arith) r.score_read (at_nil bs (part_at k 0)))))))

  -- the row of its part j
  fields_at : (k j value key decimals text_length label_length from : ℕ) → k < bracket_limit → j < part_limit → FieldsRead bs k j value key decimals text_length label_length from
      → At bs (part_at k j) (part_fields value key decimals text_length label_length from)
  fields_at k j value key decimals text_length label_length from h g r =
      at_byte (part_at k j) (part_at k j + 1) refl (omega arith) r.value_read
      (at_byte (part_at k j + 1) (part_at k j + 2) (omega arith) (omega arith) r.key_read
      (at_byte (part_at k j + 2) (part_at k j + 3) (omega arith) (omega arith) r.decimals_read
      (at_byte (part_at k j + 3) (part_at k j + 4) (omega arith) (omega arith) r.text_read
      (at_byte (part_at k j + 4) (part_at k j + 5) (omega arith) (omega arith) r.label_read
      (at_two (part_at k j + 5) (part_at k (j + 1)) (omega arith) (omega arith) r.offset_read (at_nil bs (part_at k (j + 1))))))))

  -- ---- told by a test of each field
  pub counts_told : {a₁ a₂ : ℕ} {t₁ t₂ : Bool} → Tells t₁ (residues_field bs ≡ a₁) → Tells t₂ (brackets_field bs ≡ a₂) → Tells (t₁ && t₂) (At bs residues_at (counts_row a₁ a₂))
  counts_told {a₁} {a₂} v₁ v₂ =
      tells_as (λ p. counts_at a₁ a₂ (record { residues_read = p.0; brackets_read = p.1 }))
      (λ a. let r = counts_read bs a₁ a₂ a in (r.residues_read, r.brackets_read)) (tells_both v₁ v₂)

  module _ {a₁ a₂ a₃ a₄ a₅ a₆ : ℕ} {t₁ t₂ t₃ t₄ t₅ t₆ : Bool} where
    pub head_told : (k : ℕ) → k < bracket_limit → Tells t₁ (kind_field bs k ≡ a₁) → Tells t₂ (first_field bs k ≡ a₂) → Tells t₃ (last_field bs k ≡ a₃)
        → Tells t₄ (count_field bs k ≡ a₄) → Tells t₅ (parts_field bs k ≡ a₅) → Tells t₆ (score_field bs k ≡ a₆)
        → Tells (((((t₁ && t₂) && t₃) && t₄) && t₅) && t₆) (At bs (row_at k) (head_row a₁ a₂ a₃ a₄ a₅ a₆))
    head_told k h v₁ v₂ v₃ v₄ v₅ v₆ =
        tells_as
        (λ p.
        head_at_lem k a₁ a₂ a₃ a₄ a₅ a₆ h
        (record { kind_read = p.0.0.0.0.0; first_read = p.0.0.0.0.1; last_read = p.0.0.0.1; count_read = p.0.0.1; parts_read = p.0.1; score_read = p.1 }))
        (λ a.
        let r = head_read bs k a₁ a₂ a₃ a₄ a₅ a₆ a in
        (((((r.kind_read, r.first_read), r.last_read), r.count_read), r.parts_read), r.score_read))
        (tells_both (tells_both (tells_both (tells_both (tells_both v₁ v₂) v₃) v₄) v₅) v₆)

    pub fields_told : (k j : ℕ) → k < bracket_limit → j < part_limit → Tells t₁ (value_field bs k j ≡ a₁) → Tells t₂ (key_field bs k j ≡ a₂) → Tells t₃ (decimals_field bs k j ≡ a₃)
        → Tells t₄ (text_field bs k j ≡ a₄) → Tells t₅ (label_field bs k j ≡ a₅) → Tells t₆ (offset_field bs k j ≡ a₆)
        → Tells (((((t₁ && t₂) && t₃) && t₄) && t₅) && t₆) (At bs (part_at k j) (part_fields a₁ a₂ a₃ a₄ a₅ a₆))
    fields_told k j h g v₁ v₂ v₃ v₄ v₅ v₆ =
        tells_as
        (λ p.
        fields_at k j a₁ a₂ a₃ a₄ a₅ a₆ h g
        (record { value_read = p.0.0.0.0.0; key_read = p.0.0.0.0.1; decimals_read = p.0.0.0.1; text_read = p.0.0.1; label_read = p.0.1; offset_read = p.1 }))
        (λ a.
        let r = fields_read bs k j a₁ a₂ a₃ a₄ a₅ a₆ a in
        (((((r.value_read, r.key_read), r.decimals_read), r.text_read), r.label_read), r.offset_read))
        (tells_both (tells_both (tells_both (tells_both (tells_both v₁ v₂) v₃) v₄) v₅) v₆)
