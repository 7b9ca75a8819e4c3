-- One part: its row, its text, its label and its mass, told by a test of each. Then parts in a row: the first, and those behind it.
use mathlib.Core.Path.{◌≡◌, refl, sym, subst}
use mathlib.Core.Bool.{Bool, false, ◌&&◌}
use mathlib.Core.List.{List, [], ◌∷◌, map}
use Prim.Native.Nat.{ℕ, ◌+◌, ◌-◌, ◌≤◌}
use native.Mathlib.Omega.{arith}
use lib.IntN.{ℤ, pos}
use lib.ListN.{length, get_or}
use Rattle.scope.specs.declared.grammar.Key.TheVariants.{Glycan}
use Rattle.scope.specs.Keys.{key_code}
use Rattle.scope.specs.Limits.{text_limit}
use Rattle.scope.specs.Line.{Part}
use Rattle.scope.specs.Glycans.{mass_decimals}
use Rattle.scope.specs.Lists.{flat, part}
use Rattle.scope.specs.Layout.{numbers_size, texts_at, part_at, mass_at, composition_code, mass_in, packed, part_fields, part_row, part_rows, mass_field}
use Rattle.layout_laws.specs.At.{At}
use Rattle.sheet.specs.Fields.{value_field, key_field, decimals_field, text_from_field, text_to_field, label_from_field, label_to_field}
use Rattle.glycans.specs.Cut.{PutBefore}
use Rattle.store.specs.PartPut.{is_composed, text_put, value_put, decimals_put, mass_put, text_length, label_length, offset_of, row_from, RowFits, RowCut, ShortIs}
use Rattle.store.proofs.PutRows.{label_long, label_is, noted_text, noted_length, noted_value, noted_decimals, noted_mass, cut_key, cut_value_lem, cut_decimals, cut_mass, put_in_front}
use Rattle.held.specs.Tells.{Tells}
use Rattle.held.specs.Held.{HeldFrom, PartHeld}
use Rattle.held.proofs.Joins.{tells_as, tells_both, Joins}
use Rattle.held.proofs.Places.{at_nil, at_joins, at_cons}
use Rattle.held.proofs.Upto.{held_joins}

-- ---- row m as part j of bracket k
module _ {line parts : List ℕ} {masses : List ℤ} {m k j : ℕ} (t : ℕ) (h : RowFits line parts masses m k j t) (bytes : List ℕ) (numbers : List ℤ) (long : numbers_size ≤ length numbers) where
  abbrev its_label : List ℕ
  its_label = part (label_from_field parts m) (label_length parts m) line

  abbrev Four : Type 0
  Four =
      ((At bytes (part_at k j) (row_from line parts m t) × At bytes (texts_at + t) (text_put line parts m)) × At bytes (texts_at + t + text_length line parts m) its_label)
      × (mass_field numbers k j ≡ mass_put line parts masses m)

  part_is : {r : Bool} → Tells r Four → Tells r (PartHeld line parts masses m k j t bytes numbers)
  part_is =
      let texts = at_joins bytes (texts_at + t) (texts_at + t + text_length line parts m) (text_put line parts m) its_label refl in
      let mass = at_cons numbers (pos 0) (mass_put line parts masses m) (mass_at k j) (mass_at k j + 1) [] refl (omega (arith, h.few_brackets_lem, h.few_parts_lem, long)) in
      tells_as
      (λ p. record { rows_at_is = p.0.0.0; texts_at_lem = texts.on p.0.0.1 p.0.1; masses_at = mass.on p.1 (at_nil numbers (mass_at k j + 1)) })
      (λ w.
      let x = texts.back w.texts_at_lem in
      (((w.rows_at_is, x.0), x.1), (mass.back w.masses_at).0))

  -- the bytes of texts behind it, and whether it is held
  pub record Told (u : ℕ) (r : Bool) : Type 0 where
    pub texts_are : u ≡ t + (text_length line parts m + label_length parts m)
    pub decided : Tells r (PartHeld line parts masses m k j t bytes numbers)

  -- told by a test of each
  row_seen : {r x y z : Bool} {n value key decimals o : ℕ} {text label : List ℕ} {mass put : ℤ}
      → n ≡ text_length line parts m → label ≡ its_label → o ≡ offset_of (n + length label) t
      → value ≡ value_put line parts m → key ≡ key_field parts m → decimals ≡ decimals_put line parts m
      → Tells r (At bytes (part_at k j) (part_fields value key decimals n (length label) o))
      → text ≡ text_put line parts m → Tells x (At bytes (texts_at + t) text) → Tells y (At bytes (texts_at + t + n) label)
      → mass ≡ mass_field numbers k j → put ≡ mass_put line parts masses m → Tells z (mass ≡ put)
      → Told (t + n + length label) (((r && x) && y) && z)
  row_seen en el eo ev ek edec r ex x y em ep z =
      let ll = label_long h in
      record {
        texts_are = rw (en, el, ll) (omega arith);
        decided =
            part_is
            (tells_both (tells_both (tells_both (rw (eo, ev, ek, edec, en, el, ll) at r) (rw ex at x)) (rw (en, el) at y)) (rw (em, ep) at z));
      }

  -- as it is noted
  pub noted_seen : is_composed parts m ≡ false → {r x y z : Bool} {text to label ends o value key decimals : ℕ} {mass : ℤ}
      → text ≡ text_from_field parts m → to ≡ text_to_field parts m → label ≡ label_from_field parts m → ends ≡ label_to_field parts m
      → o ≡ offset_of (length (part text (to - text) line) + length (part label (ends - label) line)) t
      → value ≡ value_field parts m → key ≡ key_field parts m → decimals ≡ decimals_field parts m
      → Tells r (At bytes (part_at k j) (part_fields value key decimals (length (part text (to - text) line)) (length (part label (ends - label) line)) o))
      → Tells x (At bytes (texts_at + t) (part text (to - text) line))
      → Tells y (At bytes (texts_at + t + length (part text (to - text) line)) (part label (ends - label) line))
      → mass ≡ mass_field numbers k j → Tells z (mass ≡ get_or masses m (pos 0))
      → Told (t + length (part text (to - text) line) + length (part label (ends - label) line)) (((r && x) && y) && z)
  noted_seen plain ef et el ee eo ev ek ed r x y em z =
      row_seen (noted_length h plain ef et) (label_is h el ee) eo (noted_value h plain ev) ek (noted_decimals h plain ed) r
      (noted_text h plain ef et) x y em (noted_mass h plain refl) z

  -- a composition, its short text in front of an area of its own
  pub cut_seen : RowCut line parts m → {r x y z : Bool} {label ends o size weight at : ℕ} {area area' : List ℕ} {mass : ℤ}
      → label ≡ label_from_field parts m → ends ≡ label_to_field parts m → ShortIs line parts m size weight
      → PutBefore area size (text_put line parts m) area' at → text_limit ≤ length area → o ≡ offset_of (size + length (part label (ends - label) line)) t
      → Tells r (At bytes (part_at k j) (part_fields composition_code (key_code Glycan) mass_decimals size (length (part label (ends - label) line)) o))
      → Tells x (At bytes (texts_at + t) (part 0 size area')) → Tells y (At bytes (texts_at + t + size) (part label (ends - label) line))
      → mass ≡ mass_field numbers k j → Tells z (mass ≡ pos weight)
      → Told (t + size + length (part label (ends - label) line)) (((r && x) && y) && z)
  cut_seen w el ee short q room eo r x y em z =
      row_seen short.sized (label_is h el ee) eo (cut_value_lem w) (cut_key w) (cut_decimals w) r
      (put_in_front q short.sized (omega (arith, short.few))) x y em (cut_mass w masses short refl) z

-- ---- the parts of bracket k
abbrev pub mass_of : Part ℕ → ℤ
mass_of p = mass_in p.value

abbrev pub PartsHeld : List ℕ → List ℤ → ℕ → ℕ → ℕ → List (Part ℕ) → Type 0
PartsHeld bytes numbers k j t ps = HeldFrom bytes numbers (part_at k j) t (mass_at k j) (part_rows t ps) (flat packed ps) (map mass_of ps)

module _ (bytes : List ℕ) (numbers : List ℤ) (k j t : ℕ) where
  pub no_parts_lem : PartsHeld bytes numbers k j t []
  unfolding part_rows flat
  no_parts_lem = record { rows_at_is = at_nil bytes (part_at k j); texts_at_lem = at_nil bytes (texts_at + t); masses_at = at_nil numbers (mass_at k j) }

  pub parts_joins : (p : Part ℕ) (ps : List (Part ℕ)) (u : ℕ) → u ≡ t + length (packed p)
      → Joins (HeldFrom bytes numbers (part_at k j) t (mass_at k j) (part_row t p) (packed p) (mass_of p ∷ [])) (PartsHeld bytes numbers k (j + 1) u ps) (PartsHeld bytes numbers k j t (p ∷ ps))
  unfolding part_rows flat
  parts_joins p ps u e =
      subst (λ v. Joins (HeldFrom bytes numbers (part_at k j) t (mass_at k j) (part_row t p) (packed p) (mass_of p ∷ [])) (PartsHeld bytes numbers k (j + 1) v ps) (PartsHeld bytes numbers k j t (p ∷ ps))) (sym e)
      (held_joins bytes numbers (part_at k j) t (mass_at k j) (part_at k (j + 1)) (t + length (packed p)) (mass_at k (j + 1)) (part_row t p) (packed p) (mass_of p ∷ [])
      (part_rows (t + length (packed p)) ps) (flat packed ps) (map mass_of ps) (omega arith) refl (omega arith))
