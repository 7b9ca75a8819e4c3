-- Within the limits a row of the sheet says what the row of its part or bracket in the areas holds: its fields, its texts, its numbers.
use mathlib.Core.Path.{◌≡◌, refl, sym, ap, ap₂, subst, ◌∙◌}
use mathlib.Core.Logic.{inl, inr}
use mathlib.Core.Bool.{Bool, true, false, cond, ◌&&◌}
use mathlib.Core.Option.{Option, none, some}
use mathlib.Core.List.{List, [], ◌∷◌, ◌++◌, map}
use Prim.Native.Nat.{ℕ, suc, ◌+◌, ◌-◌, ◌≤◌, ◌<◌, min}
use native.Mathlib.Omega.{arith}
use lib.Dec.{eqb}
use lib.IntN.{ℤ, pos}
use lib.ListN.{length, get_or, length-append, length-map}
use borrow.Author.Tests.{eq-eqb, ne_eqb}
use Rattle.scope.specs.declared.grammar.Key.{Key}
use Rattle.scope.specs.declared.grammar.Key.TheVariants.{Glycan}
use Rattle.scope.specs.Bytes.{byte_limit}
use Rattle.scope.specs.Limits.{line_limit, residue_limit, bracket_limit, part_limit, text_limit, label_limit, count_limit, decimal_limit}
use Rattle.scope.specs.Line.{Number, Label, Value, mass, text, reference, composition, Part, Bracket}
use Rattle.scope.specs.Keys.{key_code, written}
use Rattle.scope.specs.Kinds.{kind_code}
use Rattle.scope.specs.Lists.{given, none?, part}
use Rattle.scope.specs.Modifications.{is_key}
use Rattle.scope.specs.Glycans.{Item, cuttings, short_text}
use Rattle.scope.specs.Kept.{composition_mass, cut_as, cut_value, kept_part}
use Rattle.scope.specs.Refusals.{in_range, text_in, text_of}
use Rattle.scope.specs.Tables.{millionths, label_of, score_of}
use Rattle.scope.specs.Layout.{text_code, value_code, mass_in, decimals_in, packed, offset, part_fields, part_row, score_code}
use Rattle.basics.specs.Choice.{pick_true}
use Rattle.basics.specs.Each.{OfGiven}
use Rattle.basics.specs.Kinds.{kind_byte}
use Rattle.basics.specs.Tests.{and_left}
use Rattle.accepted_laws.specs.Within.{NumberWithin, LabelWithin, KeyWithin, ValueWithin}
use Rattle.accepted_laws.specs.Laws.{first_within, last_within}
use Rattle.layout_laws.proofs.Numbers.{few_decimals}
use Rattle.layout_laws.proofs.LayoutLaws.{score_within, head_of}
use Rattle.sites.specs.Says.{Stand}
use Rattle.sheet.specs.Rows.{text_from, text_to, label_from, label_to, decimals_noted, mass_noted, AsRead, score_noted, points_noted, places_from, masses_room}
use Rattle.sheet.specs.Fields.{kind_field, first_field, last_field, parts_field, score_field, places_field, many_field, value_field, key_field, decimals_field}
use Rattle.store.specs.PartPut.{text_noted, is_composed, composed, text_put, value_put, decimals_put, mass_put, text_length, label_length, texts_from, offset_of, row_from, RowFits, PartNoted}
use Rattle.store.specs.BracketPut.{head_from, HeadGoesIn, PlacesFit, BracketNoted}

-- ---- numbers within the limits are noted as they are
decimals_noted_lem : (p : Part ℕ) (v : Value ℕ) → AsRead v → ValueWithin p v → decimals_noted v ≡ decimals_in v
decimals_noted_lem p (mass n) r w = pick_true (in_range n) n.decimals 0 w.range
decimals_noted_lem p (text t) r w = refl
decimals_noted_lem p reference r w = refl
decimals_noted_lem p (composition t n) r w = absurd r

mass_noted_lem : (p : Part ℕ) (v : Value ℕ) → AsRead v → ValueWithin p v → mass_noted v ≡ mass_in v
mass_noted_lem p (mass n) r w = pick_true (in_range n) (millionths n) (pos 0) w.range
mass_noted_lem p (text t) r w = refl
mass_noted_lem p reference r w = refl
mass_noted_lem p (composition t n) r w = absurd r

score_noted_lem : (o : Option (Number ℕ)) → OfGiven NumberWithin o → score_noted o ≡ score_code o
score_noted_lem none w = refl
score_noted_lem (some n) w = pick_true (in_range n) (n.decimals + 1) (decimal_limit + 2) w.range

points_noted_lem : (o : Option (Number ℕ)) → OfGiven NumberWithin o → points_noted o ≡ given o millionths (pos 0)
points_noted_lem none w = refl
points_noted_lem (some n) w = pick_true (in_range n) (millionths n) (pos 0) w.range

count_noted : (c : ℕ) → c ≤ count_limit → min (count_limit + 1) c ≡ c
count_noted c h = omega arith

-- ---- they fit a byte
few_values : (v : Value ℕ) → value_code v < byte_limit
few_values (mass n) = omega arith
few_values (text t) = omega arith
few_values reference = omega arith
few_values (composition t n) = omega arith

few_keys : (k : Key) → KeyWithin k → key_code k < byte_limit
few_keys k (inl h) = omega arith
few_keys k (inr e) = let z : key_code k ≡ key_code Glycan = ap key_code e in omega arith

decimals_few : (p : Part ℕ) (v : Value ℕ) → ValueWithin p v → decimals_in v ≤ decimal_limit
decimals_few p (mass n) w = few_decimals n w
decimals_few p (text t) w = omega arith
decimals_few p reference w = omega arith
decimals_few p (composition t n) w = few_decimals n w.mass

score_few : (o : Option (Number ℕ)) → OfGiven NumberWithin o → score_code o ≤ decimal_limit + 1
score_few none w = omega arith
score_few (some n) w = omega (arith, few_decimals n w)

text_short : (p : Part ℕ) (v : Value ℕ) → ValueWithin p v → length (text_in v) ≤ text_limit
text_short p (mass n) w = omega arith
text_short p (text t) w = w.short_text_lem
text_short p reference w = omega arith
text_short p (composition t n) w = w.text.short_text_lem

label_short : (o : Option (Label ℕ)) → OfGiven LabelWithin o → length (given o (λ l. l.name) []) ≤ label_limit
label_short none w = omega arith
label_short (some l) w = w.short_name

-- ---- a text or a label is what stands between its two places
record StandsBetween (line : List ℕ) (from to : ℕ) (l : List ℕ) : Type 0 where
  order : from ≤ to
  long : to - from ≡ length l
  is : part from (to - from) line ≡ l

between : (line : List ℕ) (a : ℕ) (l : List ℕ) → l ≡ part a (length l) line → StandsBetween line a (a + length l) l
between line a l e =
    let n : a + length l - a ≡ length l = omega arith in
    record { order = omega arith; long = n; is = ap (λ k. part a k line) n ∙ sym e }

nothing_between : (line : List ℕ) → StandsBetween line 0 0 []
nothing_between line = record { order = omega arith; long = refl; is = refl }

text_between : (line : List ℕ) (p : Part ℕ) (v : Value ℕ) → AsRead v → text_in v ≡ part (p.at + length (written p.key)) (length (text_in v)) line
    → StandsBetween line (text_from p v) (text_to p v) (text_in v)
text_between line p (mass n) r e = nothing_between line
text_between line p (text t) r e = between line (p.at + length (written p.key)) t e
text_between line p reference r e = nothing_between line
text_between line p (composition t n) r e = absurd r

label_between : (line : List ℕ) (o : Option (Label ℕ))
    → given o (λ l. l.name) [] ≡ part (given o (λ l. l.at) 0) (length (given o (λ l. l.name) [])) line
    → StandsBetween line (given o (λ l. l.at) 0) (given o (λ l. l.at + length l.name) 0) (given o (λ l. l.name) [])
label_between line none e = nothing_between line
label_between line (some l) e = between line l.at l.name e

offset_noted : (l : List ℕ) (n t : ℕ) → n ≡ length l → offset_of n t ≡ offset l t
offset_noted [] n t e = let z : eqb n 0 ≡ true = eq-eqb n 0 e in rw z
offset_noted (b ∷ l) n t e = let z : eqb n 0 ≡ false = ne_eqb n 0 (λ q. no q) in rw z
  where
    no : n ≡ 0 → ⊥
    no q = let m : n ≡ suc (length l) = e in omega arith

-- ---- what is put of a part is what is kept of it
-- f does not look at the place of a composition's mass
abbrev Placeless : {A : Type 0} → (Value ℕ → A) → Type 0
Placeless f = (at : ℕ) (xs : List Item) → f (composition (short_text xs) (composition_mass 0 xs)) ≡ f (composition (short_text xs) (composition_mass at xs))

kept_as : {A : Type 0} (f : Value ℕ → A) → Placeless f → (key : Bool) (v : Value ℕ) (at : ℕ) (x : A) → AsRead v → x ≡ f v
    → cond (key && eqb (value_code v) text_code) (f (cut_as 0 (text_in v) (cuttings (text_in v)))) x ≡ f (cond key (cut_value at v) v)
kept_as f same true (mass n) at x r e = e
kept_as f same false (mass n) at x r e = e
kept_as f same true (text t) at x r e = go (cuttings t)
  where
    go : (l : List (List Item)) → f (cut_as 0 t l) ≡ f (cut_as at t l)
    go [] = refl
    go (xs ∷ l) = same at xs
kept_as f same false (text t) at x r e = e
kept_as f same true reference at x r e = e
kept_as f same false reference at x r e = e
kept_as f same key (composition t n) at x r e = absurd r

-- ---- a part
module _ {line parts : List ℕ} {masses : List ℤ} {m : ℕ} {p : Part ℕ} (w : PartNoted line parts masses m p) where
  abbrev q : Part ℕ
  q = w.read

  text_is : StandsBetween line (text_from q q.value) (text_to q q.value) (text_of q)
  text_is = text_between line q q.value w.stands.as_read w.stands.text_is

  label_is : StandsBetween line (label_from q) (label_to q) (label_of q)
  label_is = label_between line q.label w.stands.label_is

  text_noted_lem : text_noted line parts m ≡ text_of q
  text_noted_lem = ap₂ (λ x y. part x (y - x) line) w.fields.text_from_is w.fields.text_to_is ∙ text_is.is

  composed_is : is_composed parts m ≡ (is_key Glycan q && eqb (value_code q.value) text_code)
  composed_is = ap₂ (λ x y. eqb x (key_code Glycan) && eqb y text_code) w.fields.key w.fields.value

  put : {A : Type 0} (f : Value ℕ → A) → Placeless f → (x : A) → x ≡ f q.value → cond (is_composed parts m) (f (composed line parts m)) x ≡ f p.value
  put f same x e =
      ap₂ (λ b t. cond b (f (cut_as 0 t (cuttings t))) x) composed_is text_noted_lem
      ∙ kept_as f same (is_key Glycan q) q.value q.at x w.stands.as_read e
      ∙ ap (λ z. f z.value) (sym w.keeps)

  text_put_lem : text_put line parts m ≡ text_of p
  text_put_lem = put (λ v. text_in v) (λ at xs. refl) (text_noted line parts m) text_noted_lem

  value_put_lem : value_put line parts m ≡ value_code p.value
  value_put_lem = put (λ v. value_code v) (λ at xs. refl) (value_field parts m) w.fields.value

  decimals_put_lem : decimals_put line parts m ≡ decimals_in p.value
  decimals_put_lem =
      put (λ v. decimals_in v) (λ at xs. refl) (decimals_field parts m) (w.fields.decimals ∙ decimals_noted_lem q q.value w.stands.as_read w.within.value)

  key_put : key_field parts m ≡ key_code p.key
  key_put = w.fields.key ∙ ap (λ z. key_code z.key) (sym w.keeps)

  text_long : text_length line parts m ≡ length (text_of p)
  text_long = ap length text_put_lem

  same_label : label_of q ≡ label_of p
  same_label = ap (λ z. label_of z) (sym w.keeps)

  label_long : label_length parts m ≡ length (label_of p)
  label_long = ap₂ (λ x y. x - y) w.fields.label_to_is w.fields.label_from_is ∙ label_is.long ∙ ap length same_label

  pub texts_long : text_length line parts m + label_length parts m ≡ length (packed p)
  texts_long = ap₂ (λ x y. x + y) text_long label_long ∙ sym (length-append (text_of p) (label_of p))

  pub texts_noted : texts_from line parts m ≡ packed p
  texts_noted =
      ap₂ (λ x y. x ++ y) text_put_lem
      (ap₂ (λ x y. part x (y - x) line) w.fields.label_from_is w.fields.label_to_is ∙ label_is.is ∙ same_label)

  pub row_noted : (t : ℕ) → row_from line parts m t ≡ part_row t p
  row_noted t =
      let o = offset_noted (packed p) (text_length line parts m + label_length parts m) t texts_long in
      ap (part_fields (value_put line parts m) (key_field parts m) (decimals_put line parts m) (text_length line parts m) (label_length parts m)) o
      ∙ ap₂ (λ x y. part_fields (value_put line parts m) (key_field parts m) (decimals_put line parts m) x y (offset (packed p) t)) text_long label_long
      ∙ ap (λ x. part_fields (value_put line parts m) (key_field parts m) x (length (text_of p)) (length (label_of p)) (offset (packed p) t)) decimals_put_lem
      ∙ ap₂ (λ x y. part_fields x y (decimals_in p.value) (length (text_of p)) (length (label_of p)) (offset (packed p) t)) value_put_lem key_put

  pub number_noted : mass_put line parts masses m ≡ mass_in p.value
  number_noted =
      put (λ v. mass_in v) (λ at xs. refl) (get_or masses m (pos 0)) (w.mass_is ∙ mass_noted_lem q q.value w.stands.as_read w.within.value)

  cut_there : is_composed parts m ≡ true → none? (cuttings (text_noted line parts m)) ≡ false
  cut_there e =
      let k : is_key Glycan q ≡ true = and_left _ _ (sym composed_is ∙ e) in
      ap (λ t. none? (cuttings t)) text_noted_lem ∙ (rw k at w.cut)

  pub row_fits : {k j t : ℕ} → m < masses_room
      → t + length (packed p) ≤ line_limit → k < bracket_limit → j < part_limit
      → RowFits line parts masses m k j t
  row_fits c d e f =
      record {
        few_rows = c;
        value_byte = omega (arith, w.fields.value, few_values q.value);
        key_byte = omega (arith, w.fields.key, few_keys q.key w.within.key);
        decimals_byte = omega (arith, w.fields.decimals, decimals_noted_lem q q.value w.stands.as_read w.within.value, decimals_few q q.value w.within.value);
        text_order = omega (arith, w.fields.text_from_is, w.fields.text_to_is, text_is.order);
        text_inside = omega (arith, w.fields.text_to_is, w.stands.text_inside);
        short_text_lem = omega (arith, ap₂ (λ x y. x - y) w.fields.text_to_is w.fields.text_from_is ∙ text_is.long, text_short q q.value w.within.value);
        some_cutting = cut_there;
        label_order = omega (arith, w.fields.label_from_is, w.fields.label_to_is, label_is.order);
        label_inside = omega (arith, w.fields.label_to_is, w.stands.label_inside);
        short_label = omega (arith, ap₂ (λ x y. x - y) w.fields.label_to_is w.fields.label_from_is ∙ label_is.long, label_short q.label w.within.label);
        texts_room = omega (arith, texts_long);
        few_brackets_lem = e;
        few_parts_lem = f;
      }

-- ---- what is kept of a bracket has its number of parts and its score
score_kept : (ps : List (Part ℕ)) → score_of (map kept_part ps) ≡ score_of ps
unfolding score_of
score_kept [] = refl
score_kept (p ∷ ps) = ap (λ z. given p.label (λ l. given l.score some z) z) (score_kept ps)

-- ---- a bracket
module _ {line heads parts : List ℕ} {masses scores : List ℤ} {n k : ℕ} {b : Bracket ℕ} (w : BracketNoted line heads parts masses scores n k b) where
  the_score : OfGiven NumberWithin (score_of b.parts)
  the_score = score_within b.parts w.within.parts

  parts_same : length w.read.parts ≡ length b.parts
  parts_same = sym (length-map w.read.parts kept_part) ∙ ap (λ z. length z.parts) (sym w.keeps)

  score_same : score_of w.read.parts ≡ score_of b.parts
  score_same = sym (score_kept w.read.parts) ∙ ap (λ z. score_of z.parts) (sym w.keeps)

  pub parts_many : parts_field heads k ≡ length b.parts
  parts_many = w.fields.parts ∙ parts_same

  score_field_lem : score_field heads k ≡ score_code (score_of b.parts)
  score_field_lem = w.fields.score ∙ ap score_noted score_same ∙ score_noted_lem (score_of b.parts) the_score

  pub head_noted : head_from heads k ≡ head_of b
  head_noted =
      let f = w.fields in
      let c = f.count ∙ ap (λ z. min (count_limit + 1) z.count) (sym w.keeps) ∙ count_noted b.count w.within.few_counts in
      let kind : kind_field heads k ≡ kind_code b.kind = f.kind ∙ ap (λ z. kind_code z.kind) (sym w.keeps) in
      let first : first_field heads k ≡ b.first = f.first ∙ ap (λ z. z.first) (sym w.keeps) in
      let last : last_field heads k ≡ b.last = f.last ∙ ap (λ z. z.last) (sym w.keeps) in
      cc (kind, first, last, c, parts_many, score_field_lem)

  pub points_are : get_or scores k (pos 0) ≡ given (score_of b.parts) millionths (pos 0)
  points_are = w.score_is ∙ ap points_noted score_same ∙ points_noted_lem (score_of b.parts) the_score

  pub places_fit : {at many : ℕ} → at ≡ places_field heads k → many ≡ many_field heads k → k < bracket_limit
      → PlacesFit line at many k b.places
  places_fit ea em q =
      let from = ea ∙ w.fields.places ∙ ap (λ z. places_from z.places) (sym w.keeps) in
      let count = em ∙ w.fields.many ∙ ap (λ z. length z.places) (sym w.keeps) in
      record {
        many = count;
        few = omega (arith, count, w.within.few_places);
        next = w.placed.0;
        stand = subst (λ i. Stand line i b.places w.placed.0) (sym from) w.placed.1;
        few_brackets_lem = q;
      }

  pub head_fits : n ≤ residue_limit → k < bracket_limit → HeadGoesIn heads k
  head_fits r q =
      let f = w.fields in
      record {
        few_brackets_lem = q;
        kind_byte = omega (arith, f.kind, kind_byte w.read.kind);
        first_few = omega (arith, f.first, ap (λ z. z.first) w.keeps, first_within n b w.within);
        last_few = omega (arith, f.last, ap (λ z. z.last) w.keeps, last_within n b w.within);
        count_byte = omega (arith, f.count);
        parts_byte = omega (arith, parts_many, w.within.few_parts_lem);
        score_byte = omega (arith, score_field_lem, score_few (score_of b.parts) the_score);
      }
