-- What the stores of one row of the sheet come to, and those in front of the rows.
use mathlib.Core.Path.{◌≡◌, refl, sym, ap, ap₂, ◌∙◌}
use mathlib.Core.Bool.{true, false, true≢false}
use mathlib.Core.List.{List, [], ◌∷◌}
use Prim.Native.Nat.{ℕ, ◌+◌, ◌-◌, ◌*◌, ◌^◌, ◌≤◌, ◌<◌}
use native.Mathlib.Omega.{arith}
use lib.Dec.{eqb}
use lib.IntN.{ℤ, pos}
use lib.ListN.{length, get_or, take, set}
use lib.Seq.{sets}
use lib.Signed.{mag}
use mir.Syntax.{w64}
use mir.Val.{to_z, of_z, hbits}
use mir.Facts.{to_z-of_z}
use borrow.Author.Tests.{eqb-true}
use Rattle.scope.specs.declared.grammar.Key.TheVariants.{Glycan}
use Rattle.scope.specs.Keys.{key_code}
use Rattle.scope.specs.Limits.{line_limit, text_limit, decimal_limit}
use Rattle.scope.specs.Line.{composition}
use Rattle.scope.specs.Lists.{none?, part}
use Rattle.scope.specs.Glycans.{Item, mass_decimals, cuttings, short_text}
use Rattle.scope.specs.Kept.{composition_mass, cut_as}
use Rattle.scope.specs.Refusals.{text_in}
use Rattle.scope.specs.Layout.{residues_at, letters_at, sections_at, texts_at, part_at, mass_at, text_code, composition_code, value_code, mass_in, decimals_in, counts_row, part_fields}
use Rattle.basics.specs.Choice.{pick_true, pick_false}
use Rattle.basics.specs.Tests.{and_left}
use Rattle.glycans.specs.declared.Cutting.{Cutting}
use Rattle.glycans.specs.Cut.{Composed, short_of, weight_of, PutBefore}
use Rattle.sheet.proofs.RowLaws.{put_behind}
use Rattle.sheet.specs.Fields.{value_field, key_field, decimals_field, text_from_field, text_to_field, label_from_field, label_to_field}
use Rattle.store.specs.PartPut.{text_noted, is_composed, composed, text_put, value_put, decimals_put, mass_put, text_length, label_length, offset_of, row_from, RowFits, RowCut, ShortIs, ComposedFits, NotedFits, RowPut}
use Rattle.store.specs.Filled.{front_put}
use Rattle.store.proofs.Copies.{sets_append, part_length}

some_way_lem : (l : List (List Item)) → none? l ≡ false → (xs : List Item) × (more : List (List Item)) × (l ≡ xs ∷ more)
some_way_lem [] e = absurd (true≢false e)
some_way_lem (xs ∷ more) e = (xs, more, refl)

-- a number that was handed over
pub back : (r : ℤ) {z : ℤ} → mag r < 2 ^ hbits w64 → r ≡ z → to_z w64 (of_z w64 r) ≡ z
back r h e = to_z-of_z {w = w64} {z = r} (record { sfits = h }) ∙ e

-- ---- a part
module _ {line parts : List ℕ} {masses : List ℤ} {m k j t : ℕ} (h : RowFits line parts masses m k j t) where
  pub label_long : length (part (label_from_field parts m) (label_length parts m) line) ≡ label_length parts m
  label_long = part_length (label_from_field parts m) (label_length parts m) line (omega (arith, h.label_order, h.label_inside))

  -- the text, the label behind it, the row, the mass
  pub row_put : {n value key decimals o : ℕ} {label : List ℕ} {bytes b₁ b₂ b₃ : List ℕ} {x : ℤ} {numbers numbers' : List ℤ}
      → n ≡ text_length line parts m → label ≡ part (label_from_field parts m) (label_length parts m) line
      → b₁ ≡ sets bytes (texts_at + t) (text_put line parts m)
      → b₂ ≡ sets b₁ (texts_at + t + n) label
      → value ≡ value_put line parts m → key ≡ key_field parts m → decimals ≡ decimals_put line parts m → o ≡ offset_of (n + length label) t
      → b₃ ≡ sets b₂ (part_at k j) (part_fields value key decimals n (length label) o)
      → x ≡ mass_put line parts masses m → numbers' ≡ set numbers (mass_at k j) x
      → RowPut line parts masses m k j t bytes numbers (t + n + length label) b₃ numbers'
  row_put {bytes = bytes} {numbers = numbers} en el e₁ e₂ ev ek ed eo e₃ ex ens =
      record {
        texts_are = rw (en, el, label_long) (omega arith);
        bytes_are =
            rw (e₃, e₂, e₁, eo, ev, ek, ed, en, el, label_long)
            (ap (λ z. sets z (part_at k j) (row_from line parts m t))
            (sym (sets_append bytes (texts_at + t) (text_put line parts m) (part (label_from_field parts m) (label_length parts m) line))));
        numbers_are = ens ∙ ap (set numbers (mass_at k j)) ex;
      }

  pub label_is : {label ends : ℕ} → label ≡ label_from_field parts m → ends ≡ label_to_field parts m
      → part label (ends - label) line ≡ part (label_from_field parts m) (label_length parts m) line
  label_is el ee = ap₂ (λ x y. part x (y - x) line) el ee

  -- ---- as it is noted
  module _ (plain : is_composed parts m ≡ false) where
    text_noted_lem : text_put line parts m ≡ text_noted line parts m
    text_noted_lem = pick_false (is_composed parts m) _ _ plain

    pub noted_text : {text to : ℕ} → text ≡ text_from_field parts m → to ≡ text_to_field parts m → part text (to - text) line ≡ text_put line parts m
    noted_text ef et = ap₂ (λ x y. part x (y - x) line) ef et ∙ sym text_noted_lem

    pub noted_length : {text to : ℕ} → text ≡ text_from_field parts m → to ≡ text_to_field parts m → length (part text (to - text) line) ≡ text_length line parts m
    noted_length ef et = ap length (noted_text ef et)

    pub noted_value : {value : ℕ} → value ≡ value_field parts m → value ≡ value_put line parts m
    noted_value e = e ∙ sym (pick_false (is_composed parts m) _ _ plain)

    pub noted_decimals : {decimals : ℕ} → decimals ≡ decimals_field parts m → decimals ≡ decimals_put line parts m
    noted_decimals e = e ∙ sym (pick_false (is_composed parts m) _ _ plain)

    pub noted_mass : {x : ℤ} → x ≡ get_or masses m (pos 0) → x ≡ mass_put line parts masses m
    noted_mass e = e ∙ sym (pick_false (is_composed parts m) _ _ plain)

    text_long : length (text_noted line parts m) ≡ text_to_field parts m - text_from_field parts m
    text_long = part_length (text_from_field parts m) (text_to_field parts m - text_from_field parts m) line (omega (arith, h.text_order, h.text_inside))

    pub noted_fits : NotedFits line parts masses m k j t
    noted_fits = record { fits = h; plain = plain; room = omega (arith, h.texts_room, noted_length refl refl, text_long) }

    pub noted_put : {text to label ends value key decimals o : ℕ} {bytes b₁ b₂ b₃ : List ℕ} {x : ℤ} {numbers numbers' : List ℤ}
        → text ≡ text_from_field parts m → to ≡ text_to_field parts m → label ≡ label_from_field parts m → ends ≡ label_to_field parts m
        → b₁ ≡ sets bytes (texts_at + t) (part text (to - text) line)
        → b₂ ≡ sets b₁ (texts_at + t + length (part text (to - text) line)) (part label (ends - label) line)
        → value ≡ value_field parts m → key ≡ key_field parts m → decimals ≡ decimals_field parts m
        → o ≡ offset_of (length (part text (to - text) line) + length (part label (ends - label) line)) t
        → b₃ ≡ sets b₂ (part_at k j) (part_fields value key decimals (length (part text (to - text) line)) (length (part label (ends - label) line)) o)
        → x ≡ get_or masses m (pos 0) → numbers' ≡ set numbers (mass_at k j) x
        → RowPut line parts masses m k j t bytes numbers (t + length (part text (to - text) line) + length (part label (ends - label) line)) b₃ numbers'
    noted_put {bytes = bytes} ef et el ee e₁ e₂ ev ek ed eo e₃ ex en =
        row_put (noted_length ef et) (label_is el ee) (e₁ ∙ ap (sets bytes (texts_at + t)) (noted_text ef et)) e₂
        (noted_value ev) ek (noted_decimals ed) eo e₃ (noted_mass ex) en

  -- the sum of them fits
  pub noted_ends : (r : NotedFits line parts masses m k j t) {text to label ends : ℕ} → text ≡ text_from_field parts m → to ≡ text_to_field parts m → label ≡ label_from_field parts m → ends ≡ label_to_field parts m
      → t + (to - text) + (ends - label) ≤ line_limit
  noted_ends r ef et el ee = rw (ef, et, el, ee) (omega (arith, r.room))

  pub composed_fits : is_composed parts m ≡ true → ComposedFits line parts masses m k j t
  composed_fits e =
      record {
        fits = h;
        composed_row =
            record {
              few_rows = h.few_rows;
              text_order = h.text_order;
              text_inside = h.text_inside;
              short_text_lem = h.short_text_lem;
              composes = e;
              cut = h.some_cutting e;
            };
      }

-- ---- a composition
module _ {line parts : List ℕ} {m : ℕ} (h : RowCut line parts m) where
  way : (xs : List Item) × (more : List (List Item)) × (cuttings (text_noted line parts m) ≡ xs ∷ more)
  way = some_way_lem (cuttings (text_noted line parts m)) h.cut

  cut_as_lem : composed line parts m ≡ composition (short_text way.0) (composition_mass 0 way.0)
  cut_as_lem = ap (cut_as 0 (text_noted line parts m)) way.2

  short_text_lem : text_put line parts m ≡ short_of (cuttings (text_noted line parts m))
  short_text_lem = pick_true (is_composed parts m) _ _ h.composes ∙ ap text_in cut_as_lem ∙ sym (ap short_of way.2)

  pub cut_key : key_code Glycan ≡ key_field parts m
  cut_key = sym (eqb-true (key_field parts m) (key_code Glycan) (and_left _ (eqb (value_field parts m) text_code) h.composes))

  pub cut_value_lem : composition_code ≡ value_put line parts m
  cut_value_lem = ap value_code (sym cut_as_lem) ∙ sym (pick_true (is_composed parts m) _ _ h.composes)

  pub cut_decimals : mass_decimals ≡ decimals_put line parts m
  cut_decimals = ap decimals_in (sym cut_as_lem) ∙ sym (pick_true (is_composed parts m) _ _ h.composes)

  pub cut_mass : (masses : List ℤ) {x : ℤ} {size mass : ℕ} → ShortIs line parts m size mass → x ≡ pos mass → x ≡ mass_put line parts masses m
  cut_mass masses w e = e ∙ w.weighs ∙ sym (pick_true (is_composed parts m) _ _ h.composes)

  module _ {text to : ℕ} (ef : text ≡ text_from_field parts m) (et : to ≡ text_to_field parts m) where
    same_text : part text (to - text) line ≡ text_noted line parts m
    same_text = ap₂ (λ x y. part x (y - x) line) ef et

    pub cut_some : none? (cuttings (part text (to - text) line)) ≡ false
    cut_some = ap (λ x. none? (cuttings x)) same_text ∙ h.cut

    pub cut_put : short_of (cuttings (part text (to - text) line)) ≡ text_put line parts m
    cut_put = ap (λ x. short_of (cuttings x)) same_text ∙ sym short_text_lem

    text_size : length (part text (to - text) line) ≤ text_limit
    text_size = omega (arith, ap length same_text, part_length (text_from_field parts m) (text_to_field parts m - text_from_field parts m) line (omega (arith, h.text_order, h.text_inside)), h.short_text_lem)

    pub short_is : {c : Cutting} → Composed (part text (to - text) line) c → ShortIs line parts m c.size c.mass
    short_is w =
        record {
          sized = w.sized ∙ ap length cut_put;
          few = omega (arith, w.no_longer, text_size);
          weighs =
              ap pos (w.weighs text_size ∙ ap (λ x. weight_of (cuttings x) * 10 ^ (decimal_limit - mass_decimals)) same_text
              ∙ ap (λ l. weight_of l * 10 ^ (decimal_limit - mass_decimals)) way.2)
              ∙ ap mass_in (sym cut_as_lem);
          fits = w.fits;
        }

-- ---- bytes put so that they end before a place
-- n behind t others
pub put_behind_texts : (i : ℕ) {area w area' : List ℕ} {at n r : ℕ} → PutBefore area at w area' r → at ≡ i + n → n ≡ length w → area' ≡ sets area i w
put_behind_texts i {area = area} {w = w} {r = r} q e f = let z : r ≡ i = omega (arith, q.begins) in q.put ∙ ap (λ j. sets area j w) z

-- in front of an area of their own
pub put_in_front : {area w area' : List ℕ} {n r : ℕ} → PutBefore area n w area' r → n ≡ length w → n ≤ length area → part 0 n area' ≡ w
put_in_front {area = area} {w = w} {n = n} q f room =
    ap (take n) (put_behind_texts 0 q (omega arith) f) ∙ put_behind area 0 w n (omega arith) room

-- ---- in front of the rows
pub front_put_lem : (letters sections : List ℕ) (residues brackets : ℕ) (bytes : List ℕ) {b₁ b₂ b₃ : List ℕ}
    → b₁ ≡ sets bytes residues_at (counts_row residues brackets) → b₂ ≡ sets b₁ letters_at (take residues letters) → b₃ ≡ sets b₂ sections_at (take residues sections)
    → b₃ ≡ front_put letters sections residues brackets bytes
front_put_lem letters sections residues brackets bytes e₁ e₂ e₃ =
    e₃ ∙ ap (λ b. sets b sections_at (take residues sections)) (e₂ ∙ ap (λ b. sets b letters_at (take residues letters)) e₁)
