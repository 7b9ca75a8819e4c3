-- What is known of a bracket's parts, with one part more: first its value, then its label.
use mathlib.Core.Path.{◌≡◌, refl, sym, ap, ap₂, ◌∙◌}
use mathlib.Core.Bool.{Bool, true, false, cond, ◌&&◌}
use mathlib.Core.Option.{Option, none, some}
use mathlib.Core.List.{List, [], ◌∷◌, ◌++◌, map, append-nil}
use Prim.Native.Nat.{ℕ, ◌+◌}
use native.Mathlib.Omega.{arith}
use borrow.Author.Tests.{ne_eqb}
use lib.Dec.{eqb}
use lib.ListN.{length, length-append}
use Rattle.scope.specs.declared.grammar.Key.TheVariants.{Info}
use Rattle.scope.specs.Limits.{decimal_limit}
use Rattle.scope.specs.Line.{Number, Label, Value, mass, text, reference, composition, Part}
use Rattle.scope.specs.Lists.{given, flat, part}
use Rattle.scope.specs.Keys.{key_code}
use Rattle.scope.specs.Content.{is_reference, labelled}
use Rattle.scope.specs.Modifications.{is_key, name_of}
use Rattle.scope.specs.Refusals.{in_range}
use Rattle.scope.specs.Tables.{score_of}
use Rattle.scope.specs.Layout.{mass_code, reference_code, value_code}
use Rattle.basics.specs.Each.{each_snoc, each_front, each_back}
use Rattle.basics.specs.Lists.{flat_snoc}
use Rattle.sheet.specs.Rows.{text_from, text_to, decimals_noted, mass_noted, part_note, AsRead, Stands}
use Rattle.dues.specs.Ranks.{code, lowest}
use Rattle.dues.specs.Lines.{over_rank, part_codes}
use Rattle.values.specs.declared.Value.{Value as Found}
use Rattle.values.specs.Says.{body_of, body_code, number_in, from_of, EndsAt, IsValue}
use Rattle.values.proofs.Bodies.{body_coded, body_decimals, body_millionths}
use Rattle.labels.specs.declared.Label.{Label as Named}
use Rattle.labels.specs.Says.{score_kept, IsLabel}
use Rattle.inside.specs.declared.Parts.{Parts}
use Rattle.inside.specs.Says.{PartsAre}
use Rattle.inside.specs.Progress.{with_value, with_label, score_or, refers_body, text_place, value_row}
use Rattle.inside.proofs.Lists.{length_snoc, all_snoc, refers_snoc, given_some, score_snoc}
use Rattle.inside.proofs.Codes.{fifth, codes_more, codes_label}

-- ---- a value
-- its body tells a reference
body_refers : (q : Part ℕ) (w : Value ℕ) → refers_body (body_of q w) ≡ is_reference w
body_refers q (mass n) = refl
body_refers q (text t) = refl
body_refers q reference = refl
body_refers q (composition t n) = refl

module _ (line : List ℕ) (at : ℕ) (v : Found) (q : Part ℕ) (w : IsValue line at v q) where
  pub value_refers : refers_body v.body ≡ is_reference q.value
  value_refers = ap (λ z. refers_body z.body) w.is ∙ body_refers q q.value

  -- its row
  from_noted : text_place v.body v.from ≡ text_from q q.value
  from_noted = ap (λ z. text_place z.body z.from) w.is ∙ go q.value w.stands.as_read
    where
      go : (x : Value ℕ) → AsRead x → text_place (body_of q x) (from_of q x) ≡ text_from q x
      go (mass n) r = refl
      go (text t) r = refl
      go reference r = refl
      go (composition t n) r = absurd r

  to_noted : text_place v.body v.to ≡ text_to q q.value
  to_noted = ap (λ z. text_place z.body v.to) w.is ∙ go q.value w.stands.as_read refl w.ends
    where
      go : (x : Value ℕ) → AsRead x → q.value ≡ x → EndsAt q v.to x → text_place (body_of q x) v.to ≡ text_to q x
      go (mass n) r e h = refl
      go (text t) r e h = h ∙ ap (text_to q) e
      go reference r e h = refl
      go (composition t n) r e h = absurd r

  pub row_is : value_row v ≡ part_note q
  row_is =
      ap (λ z. z ∷ key_code v.key ∷ (number_in v.body).decimals ∷ text_place v.body v.from ∷ text_place v.body v.to ∷ 0 ∷ 0 ∷ []) (ap (λ z. body_code z.body) w.is ∙ body_coded q q.value w.stands.as_read)
      ∙ ap (λ z. value_code q.value ∷ key_code z.key ∷ (number_in v.body).decimals ∷ text_place v.body v.from ∷ text_place v.body v.to ∷ 0 ∷ 0 ∷ []) w.is
      ∙ ap (λ z. value_code q.value ∷ key_code q.key ∷ z ∷ text_place v.body v.from ∷ text_place v.body v.to ∷ 0 ∷ 0 ∷ []) (ap (λ z. (number_in z.body).decimals) w.is ∙ body_decimals q q.value)
      ∙ ap₂ (λ x y. value_code q.value ∷ key_code q.key ∷ decimals_noted q.value ∷ x ∷ y ∷ 0 ∷ 0 ∷ []) from_noted to_noted
      ∙ ap (λ z. value_code q.value ∷ key_code q.key ∷ decimals_noted q.value ∷ text_from q q.value ∷ text_to q q.value ∷ given z (λ l. l.at) 0 ∷ given z (λ l. l.at + length l.name) 0 ∷ [])
      (sym w.bare)

  pub mass_is : (number_in v.body).millionths ≡ mass_noted q.value
  mass_is = ap (λ z. (number_in z.body).millionths) w.is ∙ body_millionths q q.value

  -- one part more, with no label
  pub value_more : (n : ℕ) (s : Parts) (ps : List (Part ℕ)) (least : ℕ) → PartsAre line n s ps
      → least ≡ lowest (lowest s.least (part_codes q)) (map (code over_rank) (fifth s.count q.at)) → PartsAre line n (with_value s v least) (ps ++ (q ∷ []))
  value_more n s ps least h e =
      let names = ap length (flat_snoc name_of ps q ∙ ap (λ z. flat name_of ps ++ given z (λ l. l.name ∷ []) []) w.bare ∙ append-nil (flat name_of ps)) in
      let same : score_of (ps ++ (q ∷ [])) ≡ score_of ps = score_snoc ps q ∙ ap (λ z. given (score_of ps) some (given z (λ l. l.score) none)) w.bare ∙ given_some (score_of ps) in
      record {
        count = ap (λ z. z + 1) h.count ∙ sym (length_snoc ps q);
        labels = h.labels ∙ sym names;
        info =
            ap₂ (λ x y. x && eqb (key_code y.key) (key_code Info)) h.info w.is
            ∙ sym (all_snoc (is_key Info) ps q);
        refers = ap₂ (λ x y. cond (eqb s.count 0) x y) value_refers h.refers ∙ sym (refers_snoc ps q s.count h.count);
        score = h.score ∙ ap score_kept (sym same);
        least_due =
            e ∙ ap (λ z. lowest (lowest z (part_codes q)) (map (code over_rank) (fifth s.count q.at))) h.least_due
            ∙ codes_more n ps s.count h.count q;
        stand = each_snoc (Stands line) ps q h.stand w.stands;
      }

-- ---- a label
-- the first score counts
first_score : (l x : Option (Number ℕ)) → score_or (score_kept x) (score_kept l) ≡ score_kept (given x some l)
first_score l none = refl
first_score l (some y) = refl

module _ (line : List ℕ) (at : ℕ) (r : Named) (l : Label ℕ) (w : IsLabel line at r l) (q : Part ℕ) where
  abbrev named : Part ℕ
  named = labelled q l.at l.name l.score

  -- its text stands where it stood
  same_from : (x : Value ℕ) → text_from named x ≡ text_from q x
  same_from (mass n) = refl
  same_from (text t) = refl
  same_from reference = refl
  same_from (composition t n) = refl

  same_to : (x : Value ℕ) → text_to named x ≡ text_to q x
  same_to (mass n) = refl
  same_to (text t) = refl
  same_to reference = refl
  same_to (composition t n) = refl

  stands_named : Stands line q → Stands line named
  stands_named h =
      record {
        as_read = h.as_read;
        text_is = h.text_is;
        text_inside = let e = same_to q.value in omega (arith, e, h.text_inside);
        label_is = w.name_is ∙ ap (λ z. part z (length l.name) line) (sym w.place);
        label_inside = omega (arith, w.place, w.to_is, w.to_inside);
      }

  -- its row
  pub named_row : part_note named
      ≡ value_code q.value ∷ key_code q.key ∷ decimals_noted q.value ∷ text_from q q.value ∷ text_to q q.value ∷ r.from ∷ r.to ∷ []
  named_row =
      let f : l.at ≡ r.from = w.place ∙ sym w.from_is in
      let t : l.at + length l.name ≡ r.to = omega (arith, w.place, w.to_is) in
      ap₂ (λ x y. value_code q.value ∷ key_code q.key ∷ decimals_noted q.value ∷ x ∷ y ∷ l.at ∷ (l.at + length l.name) ∷ []) (same_from q.value) (same_to q.value)
      ∙ ap₂ (λ x y. value_code q.value ∷ key_code q.key ∷ decimals_noted q.value ∷ text_from q q.value ∷ text_to q q.value ∷ x ∷ y ∷ []) f t

  -- the last part has it
  pub label_more : (n : ℕ) (s : Parts) (ps : List (Part ℕ)) (least : ℕ) (cs : List ℕ) → q.label ≡ none → PartsAre line n s (ps ++ (q ∷ [])) → least ≡ lowest s.least cs
      → ((m : ℕ) → lowest m (part_codes named) ≡ lowest (lowest m (part_codes q)) cs) → PartsAre line n (with_label s r least) (ps ++ (named ∷ []))
  label_more n s ps least cs bare h e g =
      let a = length_snoc ps q in
      let b = length_snoc ps named in
      let names = ap length (flat_snoc name_of ps q ∙ ap (λ z. flat name_of ps ++ given z (λ l. l.name ∷ []) []) bare ∙ append-nil (flat name_of ps)) in
      let more = ap length (flat_snoc name_of ps named) ∙ length-append (flat name_of ps) (l.name ∷ []) in
      let x = score_snoc ps q ∙ ap (λ z. given (score_of ps) some (given z (λ l. l.score) none)) bare ∙ given_some (score_of ps) in
      let before : s.score ≡ score_kept (score_of ps) = h.score ∙ ap score_kept x in
      let c = h.count in
      let k = h.labels in
      record {
        count = c ∙ a ∙ sym b;
        labels = let z : s.labels + 1 ≡ length (flat name_of (ps ++ (named ∷ []))) = omega (arith, k, names, more) in z;
        info = h.info ∙ all_snoc (is_key Info) ps q ∙ sym (all_snoc (is_key Info) ps named);
        refers = h.refers ∙ refers_snoc ps q (length ps) refl ∙ sym (refers_snoc ps named (length ps) refl);
        score =
            ap₂ (λ y z. score_or y z) before w.score_is
            ∙ first_score l.score (score_of ps)
            ∙ ap score_kept (sym (score_snoc ps named));
        least_due = e ∙ ap (λ z. lowest z cs) h.least_due ∙ codes_label n ps (length ps) refl q named cs refl g;
        stand =
            each_snoc (Stands line) ps named (each_front (Stands line) ps (q ∷ []) h.stand)
            (stands_named (each_back (Stands line) ps (q ∷ []) h.stand).0);
      }
