-- What the rows of the tables are of: the k-th bracket, its parts and their labels. Assumes nothing.
use Prim.Native.Nat.{ℕ, zero, suc, ◌+◌, ◌-◌, ◌*◌, ◌≤◌, ◌<◌}
use mathlib.Core.Path.{◌≡◌, refl, sym, ap, ap₂, ◌∙◌}
use mathlib.Core.Bool.{cond, ◌||◌}
use mathlib.Core.Option.{Option, none, some}
use mathlib.Core.List.{List, [], ◌∷◌, ◌++◌, map, append-nil}
use native.Mathlib.Numerals.{add-one}
use native.Mathlib.Omega.{arith}
use lib.Dec.{eqb}
use lib.ListN.{length, get_or, take, drop, length-append}
use lib.Seq.{drop-cons, take-suc, take_all, length-take-le, split_at}
use borrow.Author.Tests.{eq-eqb, ne_eqb}
use Rattle.scope.specs.declared.grammar.Key.TheVariants.{NoKey}
use Rattle.scope.specs.declared.grammar.Kind.TheVariants.{Unknown}
use Rattle.scope.specs.Limits.{bracket_limit, part_limit}
use Rattle.scope.specs.Line.{Label, Part, Bracket, reference}
use Rattle.scope.specs.Lists.{given, flat, same, among, tabled}
use Rattle.scope.specs.Modifications.{name_of, names_of}
use Rattle.basics.specs.Each.{Each}
use Rattle.basics.specs.Lists.{flat_append, flat_one, same_length}
use Rattle.sheet.specs.Rows.{head_fields, part_fields, label_from, label_to, Stands, heads_from, part_note, few_parts, few_brackets, parts_of, masses_room}
use Rattle.sheet.specs.Fields.{HeadIs, PartIs, parts_field, base_field, label_to_field}
use Rattle.sheet.proofs.FieldLaws.{head_is, part_is, part_among, stands_at_lem, parts_few}
use Rattle.rules.specs.Told.{name_at, PartLegible, AllLegible, names_at, labelled_from, labelled_at}
use Rattle.rules.specs.Ruled.{Named, Shaped, Ruled}

-- ---- the k-th bracket, and the j-th part
abbrev pub no_bracket : Bracket ℕ
no_bracket = record { kind = Unknown; first = 0; last = 0; count = 0; counted = none; parts = []; places = []; at = 0 }

abbrev pub bracket_at : List (Bracket ℕ) → ℕ → Bracket ℕ
bracket_at ks k = get_or ks k no_bracket

abbrev no_part : Part ℕ
no_part = record { key = NoKey; value = reference; label = none; at = 0 }

abbrev part_at : List (Part ℕ) → ℕ → Part ℕ
part_at ps j = get_or ps j no_part

pub drop_next : (ks : List (Bracket ℕ)) (k : ℕ) → k < length ks → drop k ks ≡ bracket_at ks k ∷ drop (k + 1) ks
drop_next ks k h = rw (add-one, drop-cons ks k no_bracket)

take_next : (ks : List (Bracket ℕ)) (k : ℕ) → k < length ks → take (k + 1) ks ≡ take k ks ++ (bracket_at ks k ∷ [])
take_next ks k h = rw (add-one, take-suc ks k no_bracket)

pub flat_next : {B : Type 0} (f : Bracket ℕ → List B) (ks : List (Bracket ℕ)) (k : ℕ) → k < length ks
    → flat f (take (k + 1) ks) ≡ flat f (take k ks) ++ f (bracket_at ks k)
flat_next f ks k h = rw (take_next ks k h, flat_append f (take k ks) (bracket_at ks k ∷ []), flat_one f (bracket_at ks k))

pub each_at : {A : Type 0} (Q : A → Type 0) (d : A) (l : List A) (i : ℕ) → Each Q l → i < length l → Q (get_or l i d)
each_at Q d [] i w h = absurd (omega arith)
each_at Q d (x ∷ l) zero w h = w.0
each_at Q d (x ∷ l) (suc i) w h = each_at Q d l i w.1 (omega arith)

-- ---- the label of a part
abbrev name_in : Part ℕ → List ℕ
name_in p = given p.label (λ l. l.name) []

label_long : (p : Part ℕ) → label_to p - label_from p ≡ length (name_in p)
label_long p = go p.label
  where
    go : (o : Option (Label ℕ)) → given o (λ l. l.at + length l.name) 0 - given o (λ l. l.at) 0 ≡ length (given o (λ l. l.name) [])
    go none = refl
    go (some l) = omega arith

label_ordered : (p : Part ℕ) → label_from p ≤ label_to p
label_ordered p = go p.label
  where
    go : (o : Option (Label ℕ)) → given o (λ l. l.at) 0 ≤ given o (λ l. l.at + length l.name) 0
    go none = omega arith
    go (some l) = omega arith

-- row x is of the part p of the line
record RowOfPart (line parts : List ℕ) (x : ℕ) (p : Part ℕ) : Type 0 where
  part : PartIs parts x p
  stands : Stands line p

module _ (line parts : List ℕ) (x : ℕ) (p : Part ℕ) (r : RowOfPart line parts x p) where
  row_name : name_at line parts x ≡ name_in p
  row_name = rw (r.part.label_to_is, r.part.label_from_is, label_long p) (sym r.stands.label_is)

  row_legible : x < masses_room → PartLegible line parts x
  row_legible h =
      record {
        noted = h;
        ordered = rw (r.part.label_from_is, r.part.label_to_is) (label_ordered p);
        within = rw r.part.label_to_is r.stands.label_inside;
      }

-- ---- rows from `base` on, of these parts
Rows : List ℕ → List ℕ → ℕ → List (Part ℕ) → Type 0
Rows line parts base ps = (j : ℕ) → j < length ps → RowOfPart line parts (base + j) (part_at ps j)

module _ (line parts : List ℕ) where
  rows_first : (base : ℕ) (p : Part ℕ) (ps : List (Part ℕ)) → Rows line parts base (p ∷ ps) → RowOfPart line parts base p
  unfolding Rows
  rows_first base p ps w = let e : base + 0 ≡ base = omega arith in rw e at (w 0 (omega arith))

  rows_rest : (base : ℕ) (p : Part ℕ) (ps : List (Part ℕ)) → Rows line parts base (p ∷ ps) → Rows line parts (base + 1) ps
  unfolding Rows
  rows_rest base p ps w j h = let e : base + suc j ≡ base + 1 + j = omega arith in rw e at (w (suc j) (omega arith))

  -- their labels, nothing where there is none
  rows_names : (base : ℕ) (ps : List (Part ℕ)) → Rows line parts base ps → tabled (name_at line parts) base (length ps) ≡ map name_in ps
  unfolding tabled
  rows_names base [] w = refl
  rows_names base (p ∷ ps) w =
      ap₂ ◌∷◌ (row_name line parts base p (rows_first base p ps w)) (rows_names (base + 1) ps (rows_rest base p ps w))

  -- the row of the only label: of one part
  last_label : (base : ℕ) (p : Part ℕ) → RowOfPart line parts base p → length (name_of p) ≡ 1 → name_of p ≡ name_at line parts base ∷ []
  last_label base p r e = go p.label refl
    where
      go : (o : Option (Label ℕ)) → p.label ≡ o → name_of p ≡ name_at line parts base ∷ []
      go none q = let z : length (name_of p) ≡ 0 = rw q in absurd (omega arith)
      go (some l) q = let z : name_in p ≡ l.name = rw q in rw q (ap (λ t. t ∷ []) (sym (row_name line parts base p r ∙ z)))

  none_left : (ns : List (List ℕ)) → length ns ≡ 0 → ns ≡ []
  none_left [] q = refl
  none_left (x ∷ ns) q = absurd (omega arith)

  -- of a part and others, where y is the row of the only label of these
  first_label : (base y : ℕ) (p : Part ℕ) (rest : List (List ℕ)) → RowOfPart line parts base p → Named p
      → length (name_of p ++ rest) ≡ 1 → (length rest ≡ 1 → rest ≡ name_at line parts y ∷ [])
      → name_of p ++ rest ≡ name_at line parts (cond (eqb (label_to_field parts base) 0) y base) ∷ []
  first_label base y p rest r m e f = go p.label refl
    where
      go : (o : Option (Label ℕ)) → p.label ≡ o → name_of p ++ rest ≡ name_at line parts (cond (eqb (label_to_field parts base) 0) y base) ∷ []
      go none q =
          let to : label_to_field parts base ≡ 0 = r.part.label_to_is ∙ (let z : label_to p ≡ 0 = rw q in z) in
          let names : name_of p ≡ [] = rw q in
          rw (names, eq-eqb (label_to_field parts base) 0 to) (f (ap (λ t. length (t ++ rest)) (sym names) ∙ e))
      go (some l) q =
          let z : label_to p ≡ l.at + length l.name = rw q in
          let long : 0 < length l.name = rw q at m in
          let names : name_of p ≡ l.name ∷ [] = rw q in
          let one : name_in p ≡ l.name = rw q in
          let left : rest ≡ [] = none_left rest (omega (arith, e, length-append (name_of p) rest, ap length names)) in
          rw (ne_eqb (label_to_field parts base) 0 (λ w. absurd (omega (arith, w, r.part.label_to_is, z, long))), left, names)
          (ap (λ t. t ∷ []) (sym (row_name line parts base p r ∙ one)))

  only_label : (base m : ℕ) (ps : List (Part ℕ)) → length ps ≡ suc m → Rows line parts base ps → Each Named ps → length (flat name_of ps) ≡ 1
      → flat name_of ps ≡ name_at line parts (labelled_from parts base m) ∷ []
  unfolding flat labelled_from
  only_label base m [] l w n e = absurd (omega arith)
  only_label base zero (p ∷ []) l w n e =
      append-nil (name_of p) ∙ last_label base p (rows_first base p [] w) (ap length (sym (append-nil (name_of p))) ∙ e)
  only_label base zero (p ∷ q ∷ ps) l w n e = absurd (omega arith)
  only_label base (suc m) (p ∷ ps) l w n e =
      first_label base (labelled_from parts (base + 1) m) p (flat name_of ps) (rows_first base p ps w) n.0 e
      (only_label (base + 1) m ps (omega arith) (rows_rest base p ps w) n.1)

-- ---- searching names that are there: a label that is not there is not the one that is searched for
among_there : (x : List ℕ) → 0 < length x → (ps : List (Part ℕ)) → among x (map name_in ps) ≡ among x (flat name_of ps)
unfolding among flat
among_there x h [] = refl
among_there x h (p ∷ ps) = go p.label (among_there x h ps)
  where
    go : (o : Option (Label ℕ)) → among x (map name_in ps) ≡ among x (flat name_of ps)
        → (same x (given o (λ l. l.name) []) || among x (map name_in ps)) ≡ among x (given o (λ l. l.name ∷ []) [] ++ flat name_of ps)
    go none ih = rw (same_length x [] (λ e. absurd (omega arith))) ih
    go (some l) ih = ap (λ t. same x l.name || t) ih

-- ---- few parts
no_names : (ps : List (Part ℕ)) → 0 < length (flat name_of ps) → 0 < length ps
unfolding flat
no_names [] h = absurd (omega arith)
no_names (p ∷ ps) h = omega arith

-- ---- the tables
module _ {line heads parts : List ℕ} {n : ℕ} {ks : List (Bracket ℕ)} (a : Ruled line heads parts n ks) where
  all_noted : few_brackets ks ≡ ks
  all_noted = take_all bracket_limit ks (omega (arith, a.many, a.few))

  -- how many parts stand in the brackets before the k-th
  abbrev before : ℕ → ℕ
  before k = length (parts_of (take k ks))

  module _ (k : ℕ) (h : k < length ks) where
    split : ks ≡ take k ks ++ (bracket_at ks k ∷ drop (suc k) ks)
    split = split_at ks k no_bracket h

    pub head_at_lem : HeadIs heads k (before k) (bracket_at ks k)
    head_at_lem =
        head_is heads (length (few_brackets ks) * head_fields) k (take k ks) (bracket_at ks k) (drop (suc k) ks)
        (a.noted.rows ∙ ap (heads_from 0) (all_noted ∙ split)) (sym (length-take-le k ks (omega arith)))

    all_parts : few_parts (bracket_at ks k) ≡ (bracket_at ks k).parts
    all_parts = take_all part_limit (bracket_at ks k).parts (each_at (λ b. length b.parts ≤ part_limit) no_bracket ks k a.few_parts_lem h)

    abbrev ps : List (Part ℕ)
    ps = (bracket_at ks k).parts

    -- the parts of all brackets, split at its j-th
    parts_split : (j : ℕ) → j < length ps
        → parts_of (few_brackets ks) ≡ (parts_of (take k ks) ++ take j ps) ++ (part_at ps j ∷ (drop (suc j) ps ++ parts_of (drop (suc k) ks)))
    parts_split j l =
        ap parts_of (all_noted ∙ split)
        ∙ part_among (take k ks) (bracket_at ks k) (drop (suc k) ks) (take j ps) (part_at ps j) (drop (suc j) ps) (all_parts ∙ split_at ps j no_part l)

    row_place : (j : ℕ) → j < length ps → before k + j ≡ length (parts_of (take k ks) ++ take j ps)
    row_place j l = omega (arith, length-append (parts_of (take k ks)) (take j ps), length-take-le j ps (omega arith))

    bracket_rows : Rows line parts (before k) ps
    unfolding Rows
    bracket_rows j l =
        record {
          part =
              part_is parts (a.m * part_fields) (before k + j) (parts_of (take k ks) ++ take j ps) (part_at ps j) (drop (suc j) ps ++ parts_of (drop (suc k) ks))
              (a.noted.parts_are.rows ∙ ap (flat part_note) (parts_split j l)) (row_place j l);
          stands =
              stands_at_lem line (parts_of (take k ks) ++ take j ps) (part_at ps j) (drop (suc j) ps ++ parts_of (drop (suc k) ks))
              (rw (parts_split j l) at a.noted.stand);
        }

    -- its rows are within the room
    row_few : (j : ℕ) → j < length ps → before k + j < masses_room
    row_few j l =
        omega (arith, a.many, a.few, row_place j l, parts_few (few_brackets ks), ap length all_noted, ap length (parts_split j l), length-append (parts_of (take k ks) ++ take j ps) (part_at ps j ∷ (drop (suc j) ps ++ parts_of (drop (suc k) ks))))

    -- a label is among its labels where it is among those of its rows
    pub names_at_lem : (x : List ℕ) → 0 < length x → among x (names_at line heads parts k) ≡ among x (names_of (bracket_at ks k))
    names_at_lem x l =
        rw (head_at_lem.base_is, head_at_lem.parts) (ap (among x) (rows_names line parts (before k) ps bracket_rows) ∙ among_there x l ps)

    -- its only label
    pub only_name : length (names_of (bracket_at ks k)) ≡ 1 → names_of (bracket_at ks k) ≡ name_at line parts (labelled_at heads parts k) ∷ []
    only_name e =
        let some : 0 < length ps = no_names ps (omega arith) in
        let m : length ps ≡ suc (length ps - 1) = omega arith in
        rw (head_at_lem.base_is, head_at_lem.parts)
        (only_label line parts (before k) (length ps - 1) ps m bracket_rows (each_at Shaped no_bracket ks k a.shaped h).named e)

    row_legible_at : (i : ℕ) → i < parts_field heads k → PartLegible line parts (base_field heads k + i)
    unfolding Rows
    row_legible_at i l =
        let q : i < length ps = omega (arith, head_at_lem.parts) in
        rw head_at_lem.base_is (row_legible line parts (before k + i) (part_at ps i) (bracket_rows i q) (row_few i q))

  pub all_legible : AllLegible line heads parts n
  all_legible =
      record {
        few = a.few;
        legible = λ k i h l. row_legible_at k (omega (arith, a.many)) i l;
        some_part = λ k h l.
            let q : k < length ks = omega (arith, a.many) in
            omega (arith, (head_at_lem k q).parts, no_names (bracket_at ks k).parts (omega (arith, (head_at_lem k q).labels)));
      }
