-- "`{}` holds no label", nor does the bracket of a declaration: one of these in a line that is read has no label in any of its parts.
use Rattle.std.specs.Prelude.{◌≡◌, Bool, true, false, not, ◌&&◌, ◌||◌, ℕ, eqb}
use Rattle.std.proofs.Math.Path.{refl}
use Rattle.std.proofs.Common.{sym, ◌∙◌, subst}
use Rattle.std.proofs.lemmas.Bool.{false≢true, not-true}
use Rattle.std.proofs.Math.Option.{none}
use mathlib.Core.List.{List, [], ◌∷◌, ◌++◌, map}
use Rattle.scope.specs.declared.grammar.Kind.{Kind}
use Rattle.scope.specs.declared.grammar.Mode.{Mode}
use Rattle.scope.specs.declared.grammar.Slot.{Slot}
use Rattle.scope.specs.declared.grammar.Act.{Act}
use Rattle.scope.specs.declared.grammar.Act.TheVariants.{Stop, Go, Residue as a_residue, Begin, Digit, RunEnds, TermEnds, Places}
use Rattle.scope.specs.Bytes.{hash}
use Rattle.scope.specs.Line.{Part, Bracket, Line}
use Rattle.scope.specs.Content.{Context, Inner, begin, plain, keyed, in_number, in_code, in_text, hashed, in_label, scoring, in_score, scored, Content, lost, closed, going, inner_step}
use Rattle.scope.specs.Reading.{act, Held, bracket_of, with_bracket, count_digit, as_nTerm, declared_at, State, dead, outside, inside, placing, perform, resume, step, holds, reading}
use Rattle.scope.specs.Lists.{flat}
use Rattle.scope.specs.Modifications.{name_of}
use Rattle.scope.specs.Places.{Placing}
use Rattle.mass_laws.specs.Terms.{labelless}
use Rattle.basics.specs.Each.{Each, each_append as every_append, each_last as every-last, each_map, each_one}
use Rattle.reading_laws.proofs.Acts.{of_slot, act_rule}
use Rattle.reading_laws.proofs.Goes.{Valued, of_plain, of_number, of_code, of_text, Over, of_value, of_label, of_score, On, mass_begins, plain_begins, text_begins, refers, plain_on, plain_text_lem, no_key, key_name, key_code_lem, key_text, keyed_mass, keyed_text, mass_on, code_on, text_on, hash_on, label_begins, label_on, score_opens, score_sign, score_digit, score_on, score_over, Goes, stops, goes_on_lem, part_over, shuts, goes}
use Rattle.reading_laws.proofs.Listed.{PlacesGo, places_on, places_over, places_stop, places_go}
use Rattle.reading_laws.proofs.Kept.{reading_whole, put_by, digit_by}
use Rattle.basics.specs.Tests.{and_left, and_right}
use Rattle.laws.specs.Curly.{Unlabelled}

-- ---- inside a bracket that may hold neither a reference nor a label, as `{}` may not
abbrev NoLabels : {P : Type 0} → List (Part P) → Type 0
NoLabels ps = Each (λ p. p.label ≡ none) ps

record Curly {P : Type 0} (c : Context P) : Type 0 where
  pub refers : c.refers ≡ false
  pub labels : c.labels ≡ false
  pub parts : NoLabels c.parts

abbrev InnerCurly : {P : Type 0} → Inner P → Type 0
InnerCurly (begin c) = Curly c
InnerCurly (plain c at t) = Curly c
InnerCurly (keyed c at k) = Curly c
InnerCurly (in_number c at k n d) = Curly c
InnerCurly (in_code c at k t) = Curly c
InnerCurly (in_text c at k t cs) = Curly c
InnerCurly (hashed c p) = ⊥
InnerCurly (in_label c p at name) = ⊥
InnerCurly (scoring c p at name) = ⊥
InnerCurly (in_score c p at name n d) = ⊥
InnerCurly (scored c p) = ⊥

abbrev ContentCurly : {P : Type 0} → Content P → Type 0
ContentCurly lost = Unit {0}
ContentCurly (closed ps) = NoLabels ps
ContentCurly (going c) = InnerCurly c

module _ {P : Type 0} where
  valued_curly : {s : Inner P} {c : Context P} {p : Part P} → Valued s c p → InnerCurly s → Curly c × (p.label ≡ none)
  valued_curly of_plain w = (w, refl)
  valued_curly (of_number e) w = (w, refl)
  valued_curly of_code w = (w, refl)
  valued_curly of_text w = (w, refl)

  over_curly : {s : Inner P} {c : Context P} {p : Part P} → Over s c p → InnerCurly s → Curly c × (p.label ≡ none)
  over_curly (of_value v) w = valued_curly v w
  over_curly of_label w = absurd w
  over_curly of_score w = absurd w

  no_labels : (c : Context P) (p : Part P) → Curly c × (p.label ≡ none) → NoLabels (c.parts ++ (p ∷ []))
  no_labels c p w = every_append (λ p. p.label ≡ none) c.parts (p ∷ []) w.0.parts (w.1, tt)

  on_curly : {i : P} {b : ℕ} {s t : Inner P} → On i b s t → InnerCurly s → InnerCurly t
  on_curly (mass_begins e) w = w
  on_curly (plain_begins e) w = w
  on_curly (text_begins e) w = w
  on_curly {b = b} (refers {c = c} e) w = false≢true (sym w.refers ∙ and_right (eqb b hash) c.refers (and_left (eqb b hash && c.refers) _ e))
  on_curly (plain_on e) w = w
  on_curly (plain_text_lem e) w = w
  on_curly (no_key e f) w = w
  on_curly (key_name e f a) w = w
  on_curly (key_code_lem e f a) w = w
  on_curly (key_text e f a) w = w
  on_curly (keyed_mass e) w = w
  on_curly (keyed_text a e) w = w
  on_curly (mass_on e) w = w
  on_curly (code_on e) w = w
  on_curly (text_on e) w = w
  on_curly {b = b} (hash_on {c = c} v e) w = false≢true (sym (valued_curly v w).0.labels ∙ and_right (eqb b hash) c.labels e)
  on_curly (label_begins e) w = w
  on_curly (label_on e) w = w
  on_curly (score_opens e) w = w
  on_curly (score_sign e) w = w
  on_curly (score_digit e) w = w
  on_curly (score_on e) w = w
  on_curly (score_over e f) w = w

  goes_curly : {i : P} {b : ℕ} {s : Inner P} {x : Content P} → Goes i b s x → InnerCurly s → ContentCurly x
  goes_curly stops w = tt
  goes_curly (goes_on_lem o) w = on_curly o w
  goes_curly (part_over {c = c} {p = p} o e) w =
      let q = over_curly o w in
      record { refers = q.0.refers; labels = q.0.labels; parts = no_labels c p q }
  goes_curly (shuts {c = c} {p = p} o e) w = no_labels c p (over_curly o w)

-- ---- the order of a line: such a bracket begins as one that may hold neither
abbrev curly_slot : Slot → Bool
curly_slot s = not (labelless s.kind) || (not s.refers && not s.labels)

act_curly : (m : Mode) (b : ℕ) → of_slot curly_slot (act m b) ≡ true
act_curly = act_rule (λ m. of_slot curly_slot) refl

slot_curly : (s : Slot) → curly_slot s ≡ true → labelless s.kind ≡ true → (s.refers ≡ false) × (s.labels ≡ false)
slot_curly s e f =
    let g : (not s.refers && not s.labels) ≡ true = rw f at e in
    (not-true s.refers (and_left _ _ g), not-true s.labels (and_right (not s.refers) _ g))

-- ---- what is read so far
abbrev Clean : {P : Type 0} → Bracket P → Type 0
Clean k = labelless k.kind ≡ true → NoLabels k.parts

record HeldClean {P : Type 0} (h : Held P) : Type 0 where
  pub brackets : Each Clean h.brackets
  pub run : Each Clean h.run

record InsideClean {P : Type 0} (s : Slot) (h : Held P) (c : Inner P) : Type 0 where
  pub held : HeldClean h
  pub content : labelless s.kind ≡ true → InnerCurly c

abbrev StateClean : {P : Type 0} → State P → Type 0
StateClean (dead p) = Unit {0}
StateClean (outside m h) = HeldClean h
StateClean (inside s at h c) = InsideClean s h c
StateClean (placing h s) = HeldClean h

module _ {P : Type 0} where
  term_clean : (ks : List (Bracket P)) → Each Clean (map as_nTerm ks)
  term_clean [] = tt
  term_clean (k ∷ ks) = ((λ e. absurd (false≢true e)), term_clean ks)

  perform_clean : (i : P) (b : ℕ) (h : Held P) (a : Act) → HeldClean h → of_slot curly_slot a ≡ true → StateClean (perform i b h a)
  unfolding perform
  perform_clean i b h Stop w g = tt
  perform_clean i b h (Go m) w g = w
  perform_clean i b h (a_residue s m) w g = record { brackets = w.brackets; run = w.run }
  perform_clean i b h (Begin s) w g = record { held = w; content = λ e. let q = slot_curly s g e in record { refers = q.0; labels = q.1; parts = tt } }
  perform_clean i b h Digit w g = record { brackets = w.brackets; run = every-last Clean (count_digit i b) (λ k q. digit_by Clean i b k (λ n p. q)) h.run w.run }
  perform_clean i b h RunEnds w g =
      record { brackets = every_append Clean h.brackets (map (λ k. k) h.run) w.brackets (each_map Clean (λ k. k) h.run w.run); run = tt }
  perform_clean i b h TermEnds w g =
      record { brackets = every_append Clean h.brackets (map as_nTerm h.run) w.brackets (term_clean h.run); run = tt }
  perform_clean i b h Places w g = w

  bracket_clean : (k : Kind) (i : P) (ps : List (Part P)) (h : Held P) → HeldClean h → (labelless k ≡ true → NoLabels ps) → HeldClean (with_bracket k i ps h)
  bracket_clean k i ps h w g =
      put_by HeldClean k (bracket_of k i ps h) h
      (λ u. record { brackets = w.brackets; run = every_append Clean h.run (bracket_of k i ps h ∷ []) w.run (g, tt) })
      (λ u. record { brackets = every_append Clean h.brackets (bracket_of k i ps h ∷ []) w.brackets (g, tt); run = w.run })

  resume_clean : (s : Slot) (at i : P) (h : Held P) (c : Content P) → HeldClean h → (labelless s.kind ≡ true → ContentCurly c) → StateClean (resume s at h i c)
  unfolding resume
  resume_clean s at i h lost w g = tt
  resume_clean s at i h (closed ps) w g = bracket_clean s.kind at ps h w g
  resume_clean s at i h (going c) w g = record { held = w; content = g }

  places_clean : {i : P} {b : ℕ} {h : Held P} {s : Placing P} {x : State P} → PlacesGo i b h s x → HeldClean h → StateClean x
  places_clean (places_on o) w = w
  places_clean {h = h} (places_over e) w = record { brackets = every-last Clean (declared_at _) (λ k q. q) h.brackets w.brackets; run = w.run }
  places_clean places_stop w = tt

  step_clean : (i : P) (s : State P) (b : ℕ) → StateClean s → StateClean (step i s b)
  unfolding step
  step_clean i (dead p) b w = tt
  step_clean i (outside m h) b w = perform_clean i b h (act m b) w (act_curly m b)
  step_clean i (inside s at h c) b w = resume_clean s at i h (inner_step i c b) w.held (λ e. goes_curly (goes i b c) (w.content e))
  step_clean i (placing h s) b w = places_clean (places_go i b h s) w

  -- ---- no labels, no names
  no_names : (ps : List (Part P)) → NoLabels ps → flat name_of ps ≡ []
  unfolding flat
  no_names [] w = refl
  no_names (p ∷ ps) w = rw w.0 (no_names ps w.1)

-- ---- a line that is read whole
unlabelled_of : {P : Type 0} (k : Bracket P) → Clean k → Unlabelled k
unlabelled_of k w e = rw (no_names k.parts (w e))

pub labelless_unlabelled : (s : List ℕ) (l : Line ℕ) → reading s ≡ holds l → Each Unlabelled l.brackets
labelless_unlabelled s l e =
    let w = reading_whole StateClean step_clean (record { brackets = tt; run = tt }) s l e in
    each_one Clean Unlabelled unlabelled_of l.brackets (subst (λ x. Each Clean x.brackets) w.line w.keeps.brackets)
