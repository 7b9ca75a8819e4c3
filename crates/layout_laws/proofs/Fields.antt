-- A row gives its fields back: what is read of each field where the row lies in an area.
use Rattle.std.specs.Prelude.{◌≡◌, refl, List, [], ◌∷◌, map, ℕ, ◌-◌, length, replicate}
use Rattle.std.proofs.Common.{arith}
use Rattle.scope.specs.Limits.{place_limit}
use Rattle.scope.specs.Line.{Place}
use Rattle.scope.specs.Layout.{residues_at, row_at, part_at, places_at, site_at, counts_row, head_row, part_fields, residues_field, brackets_field, kind_field, first_field, last_field, count_field, parts_field, score_field, value_field, key_field, decimals_field, text_field, label_field, offset_field, places_row, places_field}
use Rattle.layout_laws.specs.At.{At, at_read, at_head, at_first, at_next}
use Rattle.layout_laws.proofs.TwoBytesLaws.{wide_read}

-- the numbers of residues and of brackets
pub record CountsRead (bs : List ℕ) (residues brackets : ℕ) : Type 0 where
  pub residues_read : residues_field bs ≡ residues
  pub brackets_read : brackets_field bs ≡ brackets

-- the head of bracket k's row
pub record HeadRead (bs : List ℕ) (k kind first last count parts score : ℕ) : Type 0 where
  pub kind_read : kind_field bs k ≡ kind
  pub first_read : first_field bs k ≡ first
  pub last_read : last_field bs k ≡ last
  pub count_read : count_field bs k ≡ count
  pub parts_read : parts_field bs k ≡ parts
  pub score_read : score_field bs k ≡ score

-- the row of its part j
pub record FieldsRead (bs : List ℕ) (k j value key decimals text_length label_length from : ℕ) : Type 0 where
  pub value_read : value_field bs k j ≡ value
  pub key_read : key_field bs k j ≡ key
  pub decimals_read : decimals_field bs k j ≡ decimals
  pub text_read : text_field bs k j ≡ text_length
  pub label_read : label_field bs k j ≡ label_length
  pub offset_read : offset_field bs k j ≡ from

-- the row of its places
pub record PlacesRead {P : Type 0} (bs : List ℕ) (k : ℕ) (ps : List (Place P)) : Type 0 where
  pub many_read : places_field bs k ≡ length ps
  pub sites_read : At bs (site_at k 0) (map (λ p. p.site) ps)

module _ (bs : List ℕ) where
  pub counts_read : (residues brackets : ℕ) → At bs residues_at (counts_row residues brackets) → CountsRead bs residues brackets
  counts_read residues brackets a =
      record { residues_read = wide_read bs residues_at 0 residues _ a refl refl; brackets_read = at_read bs residues_at _ a 2 0 }

  pub head_read :
      (k kind first last count parts score : ℕ) → At bs (row_at k) (head_row kind first last count parts score)
      → HeadRead bs k kind first last count parts score
  head_read k kind first last count parts score a =
      record {
        kind_read = at_head bs (row_at k) _ _ a 0;
        first_read = wide_read bs (row_at k) 1 first _ a refl refl;
        last_read = wide_read bs (row_at k) 3 last _ a refl refl;
        count_read = at_read bs (row_at k) _ a 5 0;
        parts_read = at_read bs (row_at k) _ a 6 0;
        score_read = at_read bs (row_at k) _ a 7 0;
      }

  pub fields_read :
      (k j value key decimals text_length label_length from : ℕ)
      → At bs (part_at k j) (part_fields value key decimals text_length label_length from)
      → FieldsRead bs k j value key decimals text_length label_length from
  fields_read k j value key decimals text_length label_length from a =
      record {
        value_read = at_head bs (part_at k j) _ _ a 0;
        key_read = at_read bs (part_at k j) _ a 1 0;
        decimals_read = at_read bs (part_at k j) _ a 2 0;
        text_read = at_read bs (part_at k j) _ a 3 0;
        label_read = at_read bs (part_at k j) _ a 4 0;
        offset_read = wide_read bs (part_at k j) 5 from _ a refl refl;
      }

  pub places_read : {P : Type 0} (k : ℕ) (ps : List (Place P)) → At bs (places_at k) (places_row ps) → PlacesRead bs k ps
  places_read k ps a =
      let sites = map (λ p. p.site) ps in
      record {
        many_read = at_head bs (places_at k) _ _ a 0;
        sites_read =
            at_first bs (site_at k 0) sites (replicate (place_limit - length sites) 0)
            (at_next bs (places_at k) (length ps ∷ []) _ 1 (site_at k 0) refl (omega arith) a);
      }
