-- The steps of reading a part, each in one citation: its value is read, its label is read, what follows them.
use mathlib.Core.Path.{◌≡◌, refl, sym, ap, subst, ◌∙◌}
use mathlib.Core.Bool.{Bool, true, cond, ◌&&◌}
use mathlib.Core.List.{List, [], ◌∷◌, ◌++◌, map}
use Prim.Native.Nat.{ℕ, ◌+◌, ◌*◌, ◌<◌, ◌≤◌}
use native.Mathlib.Omega.{arith}
use borrow.Author.Tests.{eqb-true, ltb-true}
use lib.Dec.{eqb, leb, ltb}
use lib.IntN.{ℤ}
use lib.ListN.{length, get_or, set}
use lib.Seq.{sets}
use Rattle.scope.specs.Bytes.{hash, wide_limit}
use Rattle.scope.specs.Limits.{line_limit, part_limit}
use Rattle.scope.specs.Line.{Label, Part}
use Rattle.scope.specs.Lists.{given, none?}
use Rattle.scope.specs.Keys.{key_code}
use Rattle.scope.specs.Content.{is_reference, labelled, value_end}
use Rattle.scope.specs.Layout.{value_code}
use Rattle.scope.specs.Refusals.{due_at}
use Rattle.basics.specs.Tests.{and_left, and_right, both_of}
use Rattle.sheet.specs.Rows.{text_from, text_to, decimals_noted, part_fields, part_note, parts_room, masses_room}
use Rattle.sheet.specs.Fields.{label_at}
use Rattle.dues.specs.Ranks.{code, lowest}
use Rattle.dues.specs.Lines.{over_rank, part_codes, label_codes}
use Rattle.dues.specs.Steps.{of_label}
use Rattle.dues.specs.Found.{ValueFound, LabelFound}
use Rattle.values.specs.declared.Value.{Value}
use Rattle.values.specs.Says.{IsValue, ValueReads}
use Rattle.labels.specs.declared.Label.{Label as Named}
use Rattle.labels.specs.Says.{IsLabel, ReadsLabel}
use Rattle.scope.specs.declared.grammar.Stuck.{Stuck}
use Rattle.std.specs.Prelude.{Result}
use Rattle.values.specs.Says.{number_in}
use Rattle.inside.specs.declared.Parts.{Parts}
use Rattle.inside.specs.declared.Next.{Next}
use Rattle.inside.specs.Says.{Opening, PartsAre}
use Rattle.inside.specs.Progress.{with_value, with_label, behind_part, value_row, Sofar, Reached, NextPart, NextFits, LabelFits, AtLabel}
use Rattle.inside.proofs.OnePart.{value_more, row_is, mass_is, label_more, named_row}
use Rattle.inside.proofs.Tables.{part_stored, label_stored}
use Rattle.inside.proofs.Reading.{reached, behind_label, a_part}

-- ---- what the calls ask
-- there is room for a part that is stored
pub stored_fits : (line : List ℕ) (at : ℕ) (refers labels room : Bool) (base : ℕ) (s : Parts) → NextFits line at refers labels room base s
    → (stored : Bool) → stored ≡ (room && ltb s.count part_limit) → stored ≡ true → base + s.count < masses_room
stored_fits line at refers labels room base s f stored e t =
    let b = both_of room (ltb s.count part_limit) (sym e ∙ t) in
    let r = f.base_room b.0 in
    omega (arith, ltb-true s.count part_limit b.1)

module _ (line : List ℕ) (at : ℕ) (v : Value) (q : Part ℕ) (i : IsValue line at v q) (short : length line ≤ line_limit) where
  pub value_found : ValueFound line at v
  value_found = record { found = q; is_value = i; short = short }

  pub value_places : (v.from < wide_limit) × (v.to < wide_limit)
  value_places = (omega (arith, i.from_inside), omega (arith, i.within))

-- the label of a part asks what its value has left
pub label_asked : (line : List ℕ) (at : ℕ) (refers labels room : Bool) (base : ℕ) (s : Parts) → NextFits line at refers labels room base s
    → (v : Value) (q : Part ℕ) → IsValue line at v q → (stored so : Bool) (m least : ℕ) (t : Parts) → stored ≡ (room && ltb s.count part_limit) → m ≡ base + s.count
    → so ≡ (ltb v.to (length line) && (eqb (get_or line v.to 0) hash && labels)) → so ≡ true → t ≡ with_value s v least
    → LabelFits line at v.to stored m t
label_asked line at refers labels room base s f v q i stored so m least t es em eo to et =
    let within = ltb-true v.to (length line) (and_left (ltb v.to (length line)) (eqb (get_or line v.to 0) hash && labels) (sym eo ∙ to)) in
    let same : t.labels ≡ s.labels = ap (λ z. z.labels) et in
    record {
      short = f.short;
      past = i.past;
      within = within;
      few_labels = omega (arith, f.few_labels, f.few, f.within, f.short);
      row = λ e. let h = stored_fits line at refers labels room base s f stored es e in omega arith;
    }

module _ (line : List ℕ) (part at : ℕ) (stored : Bool) (m : ℕ) (s : Parts) (f : LabelFits line part at stored m s) (r : Named) (v : ReadsLabel line (at + 1) r) where
  pub label_found : LabelFound line part r
  label_found =
      record {
        found = v.found;
        is_label = subst (λ x. IsLabel line x r v.found) (sym v.is_label.place) v.is_label;
        inside = omega (arith, f.past, f.within);
        short = f.short;
      }

  pub label_places_lem : (r.from < wide_limit) × (r.to < wide_limit)
  label_places_lem = let i = v.is_label in (omega (arith, i.from_is, i.some_name, i.to_inside, f.short), omega (arith, i.to_inside, f.short))

-- ---- the value of the next part
module _ (line : List ℕ) (o : Opening) (at : ℕ) (s : Parts) (parts : List ℕ) (masses : List ℤ) (w : Sofar line o at s parts masses) (first : Bool)
    (may : (ps : List (Part ℕ)) → s.count ≡ length ps → (o.refers && none? ps) ≡ first) (lab : o.refers ≡ true → o.labels ≡ true) (v : Value) (r : ValueReads line at first v) where
  -- counted, stored, and what is due of it
  pub value_read : (stored : Bool) (m due least : ℕ) (t : Parts) (parts' : List ℕ) (masses' : List ℤ) → stored ≡ (o.room && ltb s.count part_limit) → m ≡ o.base + s.count
      → (stored ≡ true → m < masses_room) → parts_room ≤ length parts → masses_room ≤ length masses
      → parts' ≡ cond stored (sets parts (m * part_fields) (value_row v)) parts → masses' ≡ cond stored (set masses m (number_in v.body).millionths) masses
      → ((q : Part ℕ) → IsValue line at v q → due ≡ lowest s.least (part_codes q)) → least ≡ lowest due (map (code over_rank) (due_at (leb part_limit s.count) at))
      → t ≡ with_value s v least → Reached line o v.to value_end t w.found r.found parts' masses'
  value_read stored m due least t parts' masses' es em fits pr mr ep en ed el et =
      let q = r.found in
      let i = r.is_value in
      let c = w.are.count in
      reached line o at s parts masses w first may lab v r t parts' masses'
      (subst (λ z. PartsAre line o.least z (w.found ++ (q ∷ []))) (sym et)
      (value_more line at v q i o.least s w.found least w.are
      (el ∙ ap (λ z. lowest z (map (code over_rank) (due_at (leb part_limit s.count) at))) (ed q i)
      ∙ ap (λ z. lowest (lowest s.least (part_codes q)) (map (code over_rank) (due_at (leb part_limit s.count) z))) (sym i.place))))
      (part_stored o w.found parts masses w.grows q stored m (value_row v) (number_in v.body).millionths parts' masses'
      (es ∙ ap (λ z. o.room && ltb z part_limit) c) (em ∙ ap (λ z. o.base + z) c) fits pr mr (row_is line at v q i) (mass_is line at v q i) ep en)

  -- its `#` follows
  pub at_label : (stored so reference : Bool) (m : ℕ) (t : Parts) (parts' : List ℕ) (masses' : List ℤ) → Reached line o v.to value_end t w.found r.found parts' masses'
      → stored ≡ (o.room && ltb s.count part_limit) → m ≡ o.base + s.count → so ≡ (ltb v.to (length line) && (eqb (get_or line v.to 0) hash && o.labels)) → so ≡ true
      → reference ≡ is_reference r.found.value → AtLabel line o at v.to o.shut stored m reference t w.found r.found parts' masses'
  at_label stored so reference m t parts' masses' h es em eo to er =
      let b = and_right (ltb v.to (length line)) (eqb (get_or line v.to 0) hash && o.labels) (sym eo ∙ to) in
      let c = w.are.count in
      record {
        reached = h;
        bare = r.is_value.bare;
        shut_is = refl;
        allowed = and_right (eqb (get_or line v.to 0) hash) o.labels b;
        hash_there = eqb-true (get_or line v.to 0) hash (and_left (eqb (get_or line v.to 0) hash) o.labels b);
        place = r.is_value.place;
        stored_is = es ∙ ap (λ z. o.room && ltb z part_limit) c;
        number = em ∙ ap (λ z. o.base + z) c;
        refers = er;
      }

-- ---- the label of the last part
module _ (line : List ℕ) (o : Opening) (part at shut : ℕ) (stored : Bool) (m : ℕ) (reference : Bool) (s : Parts) (before : List (Part ℕ)) (q : Part ℕ) (parts : List ℕ) (masses : List ℤ)
    (a : AtLabel line o part at shut stored m reference s before q parts masses) (f : LabelFits line part at stored m s) where
  bare_row : part_note q ≡ value_code q.value ∷ key_code q.key ∷ decimals_noted q.value ∷ text_from q q.value ∷ text_to q q.value ∷ 0 ∷ 0 ∷ []
  bare_row =
      ap (λ z. value_code q.value ∷ key_code q.key ∷ decimals_noted q.value ∷ text_from q q.value ∷ text_to q q.value ∷ given z (λ l. l.at) 0 ∷ given z (λ l. l.at + length l.name) 0 ∷ [])
      a.bare

  pub label_read : (r : Named) (v : ReadsLabel line (at + 1) r) (least : ℕ) (t : Parts) (parts' : List ℕ) (z : Result Next Stuck)
      → parts_room ≤ length parts → parts' ≡ cond stored (sets parts (label_at m) (r.from ∷ r.to ∷ [])) parts → ((l : Label ℕ) → IsLabel line l.at r l → least ≡ lowest s.least (label_codes part l))
      → t ≡ with_label s r least → z ≡ behind_part line shut reference r.next t → NextPart line o part z parts' masses
  label_read r v least t parts' z pr ep el et ez =
      let l = v.found in
      let i = v.is_label in
      let n = labelled q l.at l.name l.score in
      a_part line o part r.next t before n parts' masses
      (behind_label line o part at shut stored m reference s before q parts masses a f.within r v t parts'
      (subst (λ x. PartsAre line o.least x (before ++ (n ∷ []))) (sym et)
      (label_more line (at + 1) r l i q o.least s (before) least (label_codes q.at l) a.bare a.reached.are
      (el l (subst (λ x. IsLabel line x r l) (sym i.place) i) ∙ ap (λ x. lowest s.least (label_codes x l)) (sym a.place))
      (λ x. of_label x q a.bare l)))
      (label_stored o (before) q n parts masses a.reached.grows _ _ _ _ _ _ _ _ _ bare_row (named_row line (at + 1) r l i q) refl stored m parts'
      a.stored_is a.number f.row pr ep))
      (omega (arith, i.past, f.past)) shut reference z a.shut_is a.refers ez
