-- The reader with its places renamed: what is noted of places never decides how a line is read.
use Rattle.std.specs.Prelude.{ℕ, ◌+◌, ◌*◌, ◌≡◌, ◌&&◌, eqb}
use Rattle.std.proofs.Math.Path.{refl, ap}
use Rattle.std.proofs.Common.{◌∙◌}
use Rattle.std.proofs.Math.Bool.{false, not}
use Rattle.std.proofs.Math.Option.{Option, none, some}
use mathlib.Core.List.{List, [], ◌∷◌, map, map-append}
use Rattle.std.proofs.lemmas.List.{length-map}
use Rattle.scope.specs.declared.grammar.Section.{Section}
use Rattle.scope.specs.declared.grammar.Key.{Key}
use Rattle.scope.specs.declared.grammar.Key.TheVariants.{NoKey}
use Rattle.scope.specs.declared.grammar.Kind.{Kind}
use Rattle.scope.specs.declared.grammar.Mode.TheVariants.{Listed, Runs, Counting, Start}
use Rattle.scope.specs.declared.grammar.Slot.{Slot}
use Rattle.scope.specs.declared.grammar.Act.{Act}
use Rattle.scope.specs.declared.grammar.Act.TheVariants.{Stop, Go, Residue as a_residue, Begin, Digit, RunEnds, TermEnds, Places}
use Rattle.scope.specs.Bytes.{upper, is_letter, is_sign, is_digit, is_alnum, bar, hash, colon, comma, dash, open_round, shut_round, value}
use Rattle.scope.specs.Kinds.{is_unknown}
use Rattle.scope.specs.Keys.{key_of, Form, mass_or_name, mass_only, digits, alnums, free, composed, form, hash_is_plain, accession_byte}
use Rattle.scope.specs.Line.{Number, Label, Value, mass, text, reference, composition, Place, Part, Bracket, Residue, Line}
use Rattle.scope.specs.Lists.{given, none?, on_last, optional}
use Rattle.scope.specs.Places.{Placing, expected, placed, owing, owed, terminus_of, place_step, places_end}
use Rattle.scope.specs.Content.{Digits, signed, whole, pointed, broken, digit_step, number_end, is_plain, text_step, Context, Inner, begin, plain, keyed, in_number, in_code, in_text, hashed, in_label, scoring, in_score, scored, Content, lost, closed, going, with, unlabelled, labelled, is_reference, part_end, value_end, text_end, behind_key, colon_after, name_behind, inner_step}
use Rattle.scope.specs.Reading.{act, Held, with_residue, bracket_of, put, with_bracket, times, count_digit, with_digit, as_nTerm, settled_run, declared_at, with_places, State, dead, outside, inside, placing, perform, refers?, mode_after, resume, step}
use Rattle.scope.specs.Tables.{bare_number, bare_label, bare_value, bare_part, bare_place, bare_bracket, bare_residue, tables_of}
use Rattle.basics.specs.Choice.{through, through_given, through_both}
use Rattle.basics.specs.Lists.{map_map, optional_map}

-- ---- every place renamed
module _ {P Q : Type 0} (f : P → Q) where
  abbrev pub map_number : Number P → Number Q
  map_number n = record { minus = n.minus; digits = n.digits; decimals = n.decimals; at = f n.at }

  abbrev pub map_label : Label P → Label Q
  map_label l = record { name = l.name; score = optional map_number l.score; at = f l.at }

  abbrev pub map_value : Value P → Value Q
  map_value (mass n) = mass (map_number n)
  map_value (text t) = text t
  map_value reference = reference
  map_value (composition t n) = composition t (map_number n)

  abbrev pub map_part : Part P → Part Q
  map_part p = record { key = p.key; value = map_value p.value; label = optional map_label p.label; at = f p.at }

  abbrev pub map_place : Place P → Place Q
  map_place p = record { site = p.site; at = f p.at }

  abbrev pub map_bracket : Bracket P → Bracket Q
  map_bracket k =
      record {
        kind = k.kind;
        first = k.first;
        last = k.last;
        count = k.count;
        counted = optional f k.counted;
        parts = map map_part k.parts;
        places = map map_place k.places;
        at = f k.at;
      }

  abbrev pub map_residue : Residue P → Residue Q
  map_residue r = record { letter = r.letter; section = r.section; at = f r.at }

  abbrev pub map_line : Line P → Line Q
  map_line l = record { residues = map map_residue l.residues; brackets = map map_bracket l.brackets }

  abbrev pub map_context : Context P → Context Q
  map_context c = record { shut = c.shut; refers = c.refers; labels = c.labels; parts = map map_part c.parts }

  abbrev pub map_inner : Inner P → Inner Q
  map_inner (begin c) = begin (map_context c)
  map_inner (plain c at t) = plain (map_context c) (f at) t
  map_inner (keyed c at k) = keyed (map_context c) (f at) k
  map_inner (in_number c at k n d) = in_number (map_context c) (f at) k (f n) d
  map_inner (in_code c at k t) = in_code (map_context c) (f at) k t
  map_inner (in_text c at k t cs) = in_text (map_context c) (f at) k t cs
  map_inner (hashed c p) = hashed (map_context c) (map_part p)
  map_inner (in_label c p at name) = in_label (map_context c) (map_part p) (f at) name
  map_inner (scoring c p at name) = scoring (map_context c) (map_part p) (f at) name
  map_inner (in_score c p at name n d) = in_score (map_context c) (map_part p) (f at) name (f n) d
  map_inner (scored c p) = scored (map_context c) (map_part p)

  abbrev pub map_content : Content P → Content Q
  map_content lost = lost
  map_content (closed ps) = closed (map map_part ps)
  map_content (going c) = going (map_inner c)

  abbrev pub map_held : Held P → Held Q
  map_held h =
      record {
        residues = map map_residue h.residues;
        brackets = map map_bracket h.brackets;
        run = map map_bracket h.run;
        first = h.first;
      }

  abbrev pub map_placing : Placing P → Placing Q
  map_placing (expected ps) = expected (map map_place ps)
  map_placing (placed ps p) = placed (map map_place ps) (map_place p)
  map_placing (owing ps p x w) = owing (map map_place ps) (map_place p) x w

  abbrev pub map_state : State P → State Q
  map_state (dead p) = dead (f p)
  map_state (outside m h) = outside m (map_held h)
  map_state (inside s at h c) = inside s (f at) (map_held h) (map_inner c)
  map_state (placing h s) = placing (map_held h) (map_placing s)

module _ {P Q : Type 0} (f : P → Q) where
  -- ---- inside a bracket
  with_map : (c : Context P) (p : Part P) → map_context f (with c p) ≡ with (map_context f c) (map_part f p)
  with_map c p = rw (map-append (map_part f) c.parts (p ∷ []))

  is_reference_map : (v : Value P) → is_reference (map_value f v) ≡ is_reference v
  is_reference_map (mass n) = refl
  is_reference_map (text t) = refl
  is_reference_map reference = refl
  is_reference_map (composition t n) = refl

  part_end_map : (c : Context P) (p : Part P) (b : ℕ) → map_content f (part_end c p b) ≡ part_end (map_context f c) (map_part f p) b
  unfolding part_end
  part_end_map c p b =
      rw (is_reference_map p.value)
      (through (map_content f) (eqb b c.shut) (rw (map-append (map_part f) c.parts (p ∷ [])))
      (through (map_content f) (eqb b bar && not (is_reference p.value)) (ap (λ x. going (begin x)) (with_map c p)) refl))

  value_end_map : (c : Context P) (p : Part P) (b : ℕ) → map_content f (value_end c p b) ≡ value_end (map_context f c) (map_part f p) b
  unfolding value_end
  value_end_map c p b = through (map_content f) (eqb b hash && c.labels) refl (part_end_map c p b)

  text_end_map : (c : Context P) (at : P) (k : Key) (t cs : List ℕ) (b : ℕ)
      → map_content f (text_end c at k t cs b) ≡ text_end (map_context f c) (f at) k t cs b
  unfolding text_end
  text_end_map c at k [] cs b = refl
  text_end_map c at k (x ∷ t) [] b = value_end_map c (unlabelled at k (text (x ∷ t))) b
  text_end_map c at k (x ∷ t) (o ∷ cs) b = refl

  behind_key_map : (c : Context P) (at : P) (k : Key) (q : Form) → map_inner f (behind_key c at k q) ≡ behind_key (map_context f c) (f at) k q
  behind_key_map c at k mass_or_name = refl
  behind_key_map c at k mass_only = refl
  behind_key_map c at k digits = refl
  behind_key_map c at k alnums = refl
  behind_key_map c at k free = refl
  behind_key_map c at k composed = refl

  colon_after_map : (c : Context P) (at : P) (t : List ℕ) → map_inner f (colon_after c at t) ≡ colon_after (map_context f c) (f at) t
  unfolding colon_after
  colon_after_map c at t = through_given (map_inner f) (key_of t) (λ k. behind_key_map c at k (form k)) refl

  name_behind_map : (c : Context P) (at : P) (k : Key) (q : Form) (b : ℕ)
      → map_content f (name_behind c at k q b) ≡ name_behind (map_context f c) (f at) k q b
  name_behind_map c at k mass_or_name b = through_given (map_content f) (text_step false [] b) (λ cs. refl) refl
  name_behind_map c at k mass_only b = refl
  name_behind_map c at k digits b = refl
  name_behind_map c at k alnums b = refl
  name_behind_map c at k free b = refl
  name_behind_map c at k composed b = refl

  none_map : (ps : List (Part P)) → none? (map (map_part f) ps) ≡ none? ps
  none_map [] = refl
  none_map (p ∷ ps) = refl

  -- a number that may end here
  number_map : (n : P) (d : Digits) (h : Number P → Content P) (h' : Number Q → Content Q)
      → ((x : Number P) → map_content f (h x) ≡ h' (map_number f x))
      → map_content f (given (number_end n d) h lost) ≡ given (number_end (f n) d) h' lost
  unfolding number_end
  number_map n (signed s) h h' p = refl
  number_map n (whole s m) h h' p = p _
  number_map n (pointed s m) h h' p = refl
  number_map n (broken s m d) h h' p = p _

  pub inner_step_map : (i : P) (c : Inner P) (b : ℕ) → map_content f (inner_step i c b) ≡ inner_step (f i) (map_inner f c) b
  unfolding inner_step
  inner_step_map i (begin c) b =
      rw (none_map c.parts)
      (through (map_content f) (is_sign b) refl
      (through (map_content f) (is_plain b) refl
      (through_given (map_content f) (text_step false [] b) (λ cs. refl)
      (through (map_content f) (eqb b hash && c.refers && none? c.parts) refl refl))))
  inner_step_map i (plain c at t) b =
      through (map_content f) (is_plain b) refl
      (through (map_content f) (eqb b colon) (ap going (colon_after_map c at t))
      (through_given (map_content f) (text_step false [] b) (λ cs. refl) (value_end_map c (unlabelled at NoKey (text t)) b)))
  inner_step_map i (keyed c at k) b = through (map_content f) (is_sign b) refl (name_behind_map c at k (form k) b)
  inner_step_map i (in_number c at k n d) b =
      through_given (map_content f) (digit_step d b) (λ d'. refl)
      (number_map n d _ (λ x. value_end (map_context f c) (unlabelled (f at) k (mass x)) b) (λ x. value_end_map c (unlabelled at k (mass x)) b))
  inner_step_map i (in_code c at k t) b = through (map_content f) (accession_byte (form k) b) refl (text_end_map c at k t [] b)
  inner_step_map i (in_text c at k t cs) b =
      through_given (map_content f) (text_step (hash_is_plain (form k)) cs b) (λ cs'. refl) (text_end_map c at k t cs b)
  inner_step_map i (hashed c p) b = through (map_content f) (is_alnum b) refl refl
  inner_step_map i (in_label c p at name) b =
      through (map_content f) (is_alnum b) refl
      (through (map_content f) (eqb b open_round) refl (part_end_map c (labelled p at name none) b))
  inner_step_map i (scoring c p at name) b =
      through (map_content f) (is_sign b) refl (through (map_content f) (is_digit b) refl refl)
  inner_step_map i (in_score c p at name n d) b =
      through_given (map_content f) (digit_step d b) (λ d'. refl)
      (through (map_content f) (eqb b shut_round)
      (number_map n d _ (λ x. going (scored (map_context f c) (labelled (map_part f p) (f at) name (some x)))) (λ x. refl)) refl)
  inner_step_map i (scored c p) b = part_end_map c p b

  -- ---- outside brackets
  with_residue_map : (i : P) (b : ℕ) (s : Section) (h : Held P) → map_held f (with_residue i b s h) ≡ with_residue (f i) b s (map_held f h)
  with_residue_map i b s h = rw (map-append (map_residue f) h.residues _, length-map h.residues (map_residue f))

  bracket_of_map : (k : Kind) (i : P) (ps : List (Part P)) (h : Held P)
      → map_bracket f (bracket_of k i ps h) ≡ bracket_of k (f i) (map (map_part f) ps) (map_held f h)
  bracket_of_map k i ps h = rw (length-map h.residues (map_residue f))

  put_map : (k : Kind) (x : Bracket P) (h : Held P) → map_held f (put k x h) ≡ put k (map_bracket f x) (map_held f h)
  put_map k x h =
      through (map_held f) (is_unknown k) (rw (map-append (map_bracket f) h.run (x ∷ []))) (rw (map-append (map_bracket f) h.brackets (x ∷ [])))

  with_bracket_map : (k : Kind) (i : P) (ps : List (Part P)) (h : Held P)
      → map_held f (with_bracket k i ps h) ≡ with_bracket k (f i) (map (map_part f) ps) (map_held f h)
  with_bracket_map k i ps h = put_map k (bracket_of k i ps h) h ∙ ap (λ x. put k x (map_held f h)) (bracket_of_map k i ps h)

  count_digit_map : (i : P) (b : ℕ) (k : Bracket P) → map_bracket f (count_digit i b k) ≡ count_digit (f i) b (map_bracket f k)
  count_digit_map i b k = go k.counted
    where
      go : (o : Option P)
          → map_bracket f (given o (λ p. times (k.count * 10 + value b) p k) (times (value b) i k))
          ≡ given (optional f o) (λ p. times (k.count * 10 + value b) p (map_bracket f k)) (times (value b) (f i) (map_bracket f k))
      go none = refl
      go (some p) = refl

  on_last_map : {A B : Type 0} (g : A → B) (u : A → A) (v : B → B) → ((x : A) → g (u x) ≡ v (g x)) → (l : List A)
      → map g (on_last u l) ≡ on_last v (map g l)
  unfolding on_last
  on_last_map g u v e [] = refl
  on_last_map g u v e (x ∷ []) = rw (e x)
  on_last_map g u v e (x ∷ y ∷ l) = ap (λ z. g x ∷ z) (on_last_map g u v e (y ∷ l))

  with_digit_map : (i : P) (b : ℕ) (h : Held P) → map_held f (with_digit i b h) ≡ with_digit (f i) b (map_held f h)
  with_digit_map i b h =
      rw (on_last_map (map_bracket f) (count_digit i b) (count_digit (f i) b) (count_digit_map i b) h.run)

  settled_run_map : (u : Bracket P → Bracket P) (v : Bracket Q → Bracket Q) → ((x : Bracket P) → map_bracket f (u x) ≡ v (map_bracket f x))
      → (h : Held P) → map_held f (settled_run u h) ≡ settled_run v (map_held f h)
  settled_run_map u v e h = rw (map-append (map_bracket f) h.brackets (map u h.run), runs h.run)
    where
      runs : (l : List (Bracket P)) → map (map_bracket f) (map u l) ≡ map v (map (map_bracket f) l)
      runs [] = refl
      runs (x ∷ l) = rw (e x, runs l)

  perform_map : (i : P) (b : ℕ) (h : Held P) (a : Act) → map_state f (perform i b h a) ≡ perform (f i) b (map_held f h) a
  unfolding perform
  perform_map i b h Stop = refl
  perform_map i b h (Go m) = refl
  perform_map i b h (a_residue s m) = ap (outside m) (with_residue_map i b s h)
  perform_map i b h (Begin s) = refl
  perform_map i b h Digit = ap (outside Counting) (with_digit_map i b h)
  perform_map i b h RunEnds = ap (outside Runs) (settled_run_map (λ k. k) (λ k. k) (λ k. refl) h)
  perform_map i b h TermEnds = ap (outside Start) (settled_run_map as_nTerm as_nTerm (λ k. refl) h)
  perform_map i b h Places = refl

  refers_map : (ps : List (Part P)) → refers? (map (map_part f) ps) ≡ refers? ps
  refers_map [] = refl
  refers_map (p ∷ ps) = is_reference_map p.value

  resume_map : (s : Slot) (at : P) (h : Held P) (i : P) (c : Content P)
      → map_state f (resume s at h i c) ≡ resume s (f at) (map_held f h) (f i) (map_content f c)
  unfolding resume
  resume_map s at h i lost = refl
  resume_map s at h i (closed ps) = rw (refers_map ps) (ap (outside (mode_after s ps)) (with_bracket_map s.kind at ps h))
  resume_map s at h i (going c) = refl

  -- ---- the places of a declaration
  owed_map : (ps : List (Place P)) (p : Place P) (w : List ℕ) → map_placing f (owed ps p w) ≡ owed (map (map_place f) ps) (map_place f p) w
  owed_map ps p [] = refl
  owed_map ps p (x ∷ w) = refl

  place_step_map : (i : P) (s : Placing P) (b : ℕ) → optional (map_placing f) (place_step i s b) ≡ place_step (f i) (map_placing f s) b
  unfolding place_step
  place_step_map i (expected ps) b = through (optional (map_placing f)) (is_letter b) refl refl
  place_step_map i (placed ps p) b =
      through (optional (map_placing f)) (eqb b comma) (ap (λ l. some (expected l)) (map-append (map_place f) ps (p ∷ [])))
      (through (optional (map_placing f)) (eqb b dash) (through_given (optional (map_placing f)) (terminus_of p.site) (λ s. refl) refl) refl)
  place_step_map i (owing ps p x w) b = through (optional (map_placing f)) (eqb (upper x) (upper b)) (ap some (owed_map ps p w)) refl

  places_end_map : (s : Placing P) → optional (map (map_place f)) (places_end s) ≡ places_end (map_placing f s)
  unfolding places_end
  places_end_map (expected ps) = refl
  places_end_map (placed ps p) = ap some (map-append (map_place f) ps (p ∷ []))
  places_end_map (owing ps p x w) = refl

  with_places_map : (ps : List (Place P)) (h : Held P) → map_held f (with_places ps h) ≡ with_places (map (map_place f) ps) (map_held f h)
  with_places_map ps h = rw (on_last_map (map_bracket f) (declared_at ps) (declared_at (map (map_place f) ps)) (λ k. refl) h.brackets)

  placing_map : (i : P) (h : Held P) (s : Placing P) (b : ℕ) → map_state f (step i (placing h s) b) ≡ step (f i) (placing (map_held f h) (map_placing f s)) b
  unfolding step
  placing_map i h s b =
      let ends : List (Place Q) → State Q = λ ps. perform (f i) b (with_places ps (map_held f h)) (act Listed b) in
      through_both (map_state f) (map_placing f) (placing (map_held f h)) (place_step i s b) (λ x. refl)
      (through_both (map_state f) (map (map_place f)) ends (places_end s)
      (λ ps. perform_map i b (with_places ps h) (act Listed b) ∙ ap (λ g. perform (f i) b g (act Listed b)) (with_places_map ps h)) refl
      ∙ ap (λ o. given o ends (dead (f i))) (places_end_map s))
      ∙ ap (λ o. given o (placing (map_held f h)) (given (places_end (map_placing f s)) ends (dead (f i)))) (place_step_map i s b)

  pub step_map : (i : P) (s : State P) (b : ℕ) → map_state f (step i s b) ≡ step (f i) (map_state f s) b
  unfolding step
  step_map i (dead p) b = refl
  step_map i (outside m h) b = perform_map i b h (act m b)
  step_map i (inside s at h c) b =
      resume_map s at h i (inner_step i c b) ∙ ap (resume s (f at) (map_held f h) (f i)) (inner_step_map i c b)
  step_map i (placing h s) b = placing_map i h s b

-- ---- the tables do not depend on the places
module _ {P Q : Type 0} (f : P → Q) where
  bare_label_map : (l : Label P) → bare_label (map_label f l) ≡ bare_label l
  bare_label_map l = rw (optional_map bare_number bare_number (map_number f) (λ x. refl) l.score)

  bare_value_map : (v : Value P) → bare_value (map_value f v) ≡ bare_value v
  bare_value_map (mass n) = refl
  bare_value_map (text t) = refl
  bare_value_map reference = refl
  bare_value_map (composition t n) = refl

  pub bare_part_map : (p : Part P) → bare_part (map_part f p) ≡ bare_part p
  bare_part_map p = rw (bare_value_map p.value, optional_map bare_label bare_label (map_label f) bare_label_map p.label)

  pub bare_bracket_map : (k : Bracket P) → bare_bracket (map_bracket f k) ≡ bare_bracket k
  bare_bracket_map k =
      rw (
        map_map bare_part bare_part (map_part f) bare_part_map k.parts,
        map_map bare_place bare_place (map_place f) (λ p. refl) k.places,
      )

  pub tables_map : (l : Line P) → tables_of (map_line f l) ≡ tables_of l
  unfolding tables_of
  tables_map l =
      rw (
        map_map bare_residue bare_residue (map_residue f) (λ x. refl) l.residues,
        map_map bare_bracket bare_bracket (map_bracket f) bare_bracket_map l.brackets,
      )
