-- Every place that is noted while n bytes are read is one of theirs, and so is every byte of a part's text.
use Rattle.std.specs.Prelude.{ℕ, ◌+◌, ◌≤◌, ◌<◌, refl, Bool, true, false, cond, length}
use Rattle.std.proofs.Common.{arith, subst, length-append}
use Rattle.std.proofs.Math.Path.{◌≡◌, ap}
use Rattle.std.proofs.Math.Option.{Option, none, some}
use mathlib.Core.List.{List, [], ◌∷◌, ◌++◌}
use Rattle.scope.specs.declared.grammar.Section.{Section}
use Rattle.scope.specs.declared.grammar.Key.{Key}
use Rattle.scope.specs.declared.grammar.Key.TheVariants.{NoKey}
use Rattle.scope.specs.declared.grammar.Kind.{Kind}
use Rattle.scope.specs.declared.grammar.Slot.{Slot}
use Rattle.scope.specs.declared.grammar.Act.{Act}
use Rattle.scope.specs.declared.grammar.Act.TheVariants.{Stop, Go, Residue as a_residue, Begin, Digit, RunEnds, TermEnds, Places}
use Rattle.scope.specs.Bytes.{bytes, same_folded, colon, value}
use Rattle.scope.specs.Keys.{spell, keys, key_among, key_of, written}
use Rattle.scope.specs.Line.{Number, Label, Value, mass, text, reference, composition, Place, Part, Bracket, Residue, Line}
use Rattle.scope.specs.Lists.{given}
use Rattle.scope.specs.Content.{Digits, signed, whole, pointed, broken, number_end, Context, Inner, begin, plain, keyed, in_number, in_code, in_text, hashed, in_label, scoring, in_score, scored, Content, lost, closed, going, unlabelled, labelled, inner_step}
use Rattle.scope.specs.Reading.{act, Held, with_residue, bracket_of, put, count_digit, as_nTerm, settled_run, declared_at, with_places, State, dead, outside, inside, placing, perform, resume, step, run, holds, reading}
use Rattle.scope.specs.Refusals.{text_of}
use Rattle.scope.specs.Places.{Placing, expected, placed, owing, owed}
use Rattle.basics.specs.Choice.{on_given}
use Rattle.basics.specs.Each.{Each, OfGiven, each_append, each_through, each_all, each_last}
use Rattle.reading_laws.proofs.Goes.{Valued, of_plain, of_number, of_code, of_text, Over, of_value, of_label, of_score, On, mass_begins, plain_begins, text_begins, refers, plain_on, plain_text_lem, no_key, key_name, key_code_lem, key_text, keyed_mass, keyed_text, mass_on, code_on, text_on, hash_on, label_begins, label_on, score_opens, score_sign, score_digit, score_on, score_over, Goes, stops, goes_on_lem, part_over, shuts, goes}
use Rattle.reading_laws.proofs.Listed.{PlaceOn, place_begins, place_over, word_begins, word_on, PlacesGo, places_on, places_over, places_stop, places_go}
use Rattle.reading_laws.proofs.Kept.{reading_whole_from, put_by}
use Rattle.basics.specs.Lists.{folded_length}

-- ---- what is inside the first n bytes
module _ (n : ℕ) where
  abbrev pub WithinNumber : Number ℕ → Type 0
  WithinNumber x = x.at < n

  pub record WithinLabel (l : Label ℕ) : Type 0 where
    pub at : l.at < n
    pub score : OfGiven WithinNumber l.score

  abbrev pub WithinValue : Value ℕ → Type 0
  WithinValue (mass x) = WithinNumber x
  WithinValue (text t) = Unit {0}
  WithinValue reference = Unit {0}
  WithinValue (composition t x) = WithinNumber x

  pub record WithinPart (p : Part ℕ) : Type 0 where
    pub at : p.at < n
    pub text : p.at + length (written p.key) + length (text_of p) ≤ n
    pub value : WithinValue p.value
    pub label : OfGiven WithinLabel p.label

  abbrev pub WithinPlace : Place ℕ → Type 0
  WithinPlace p = p.at < n

  pub record WithinBracket (k : Bracket ℕ) : Type 0 where
    pub at : k.at < n
    pub counted : OfGiven (λ p. p < n) k.counted
    pub parts : Each WithinPart k.parts
    pub places : Each WithinPlace k.places

  abbrev pub WithinResidue : Residue ℕ → Type 0
  WithinResidue r = r.at < n

  pub record WithinLine (l : Line ℕ) : Type 0 where
    pub residues : Each WithinResidue l.residues
    pub brackets : Each WithinBracket l.brackets

  pub record WithinHeld (h : Held ℕ) : Type 0 where
    pub residues : Each WithinResidue h.residues
    pub brackets : Each WithinBracket h.brackets
    pub run : Each WithinBracket h.run

  -- a part that begins at `at`, behind its key a text of m bytes, and i bytes are read
  record TextRead (i at : ℕ) (k : Key) (m : ℕ) : Type 0 where
    pub begun : at < n
    pub so_far : at + length (written k) + m ≡ i

  WithinInner : ℕ → Inner ℕ → Type 0
  WithinInner i (begin c) = Each WithinPart c.parts
  WithinInner i (plain c at t) = Each WithinPart c.parts × TextRead i at NoKey (length t)
  WithinInner i (keyed c at k) = Each WithinPart c.parts × TextRead i at k 0
  WithinInner i (in_number c at k x d) = Each WithinPart c.parts × WithinPart (unlabelled at k reference) × (x < n)
  WithinInner i (in_code c at k t) = Each WithinPart c.parts × TextRead i at k (length t)
  WithinInner i (in_text c at k t cs) = Each WithinPart c.parts × TextRead i at k (length t)
  WithinInner i (hashed c p) = Each WithinPart c.parts × WithinPart p
  WithinInner i (in_label c p at name) = Each WithinPart c.parts × WithinPart p × (at < n)
  WithinInner i (scoring c p at name) = Each WithinPart c.parts × WithinPart p × (at < n)
  WithinInner i (in_score c p at name x d) = Each WithinPart c.parts × WithinPart p × (at < n) × (x < n)
  WithinInner i (scored c p) = Each WithinPart c.parts × WithinPart p

  WithinContent : ℕ → Content ℕ → Type 0
  WithinContent i lost = Unit {0}
  WithinContent i (closed ps) = Each WithinPart ps
  WithinContent i (going c) = WithinInner i c

  WithinPlacing : Placing ℕ → Type 0
  WithinPlacing (expected ps) = Each WithinPlace ps
  WithinPlacing (placed ps p) = Each WithinPlace ps × WithinPlace p
  WithinPlacing (owing ps p x w) = Each WithinPlace ps × WithinPlace p

  WithinState : ℕ → State ℕ → Type 0
  WithinState i (dead p) = Unit {0}
  WithinState i (outside m h) = WithinHeld h
  WithinState i (inside s at h c) = WithinHeld h × (at < n) × WithinInner i c
  WithinState i (placing h s) = WithinHeld h × WithinPlacing s

-- ---- keys: as many bytes as the plain bytes that named them, and the colon
Spelled : Key → Type 0
Spelled k = length (written k) ≡ length (spell k) + 1

among_length : (ks : List Key) (t : List ℕ) → Each Spelled ks → OfGiven (λ k. length (written k) ≡ length t + 1) (key_among ks t)
unfolding key_among Spelled
among_length [] t w = tt
among_length (k ∷ ks) t w = go (same_folded (spell k) t) refl (among_length ks t w.1)
  where
    go : (b : Bool) → same_folded (spell k) t ≡ b → OfGiven (λ j. length (written j) ≡ length t + 1) (key_among ks t)
        → OfGiven (λ j. length (written j) ≡ length t + 1) (cond b (some k) (key_among ks t))
    go true e ih = omega (arith, w.0, folded_length (spell k) t e)
    go false e ih = ih

all_spelled : Each Spelled keys
unfolding keys Spelled written spell
all_spelled = (refl, (refl, (refl, (refl, (refl, (refl, (refl, (refl, (refl, (refl, (refl, (refl, (refl, (refl, (refl, (refl, (refl, tt)))))))))))))))))

key_of_length : (t : List ℕ) (k : Key) → key_of t ≡ some k → length (written k) ≡ length t + 1
unfolding key_of
key_of_length t k e = subst (OfGiven (λ j. length (written j) ≡ length t + 1)) e (among_length keys t all_spelled)

no_key_written : length (written NoKey) ≡ 0
unfolding written spell
no_key_written = refl

-- ---- one byte more, of n
module _ (n i : ℕ) (h : i < n) where
  -- a text goes on
  longer : (at : ℕ) (k : Key) (t : List ℕ) (b : ℕ) → TextRead n i at k (length t) → TextRead n (i + 1) at k (length (t ++ (b ∷ [])))
  longer at k t b w = record { begun = w.begun; so_far = omega (arith, w.so_far, length-append t (b ∷ [])) }

  -- a text begins at this byte
  fresh : TextRead n (i + 1) i NoKey 1
  fresh = record { begun = h; so_far = omega (arith, no_key_written) }

  -- a text that is over is inside
  over : (at : ℕ) (k : Key) (t : List ℕ) → TextRead n i at k (length t) → WithinPart n (unlabelled at k (text t))
  over at k t w = record { at = w.begun; text = omega (arith, w.so_far); value = tt; label = tt }

  weighed : (at : ℕ) (k : Key) (x : Number ℕ) → WithinPart n (unlabelled at k reference) → x.at < n → WithinPart n (unlabelled at k (mass x))
  weighed at k x w q = record { at = w.at; text = w.text; value = q; label = tt }

  tagged : (p : Part ℕ) (at : ℕ) (name : List ℕ) (s : Option (Number ℕ)) → WithinPart n p → at < n → OfGiven (WithinNumber n) s
      → WithinPart n (labelled p at name s)
  tagged p at name s w q r = record { at = w.at; text = w.text; value = w.value; label = record { at = q; score = r } }

  -- a key and its colon are read
  behind : (at : ℕ) (t : List ℕ) (k : Key) → key_of t ≡ some k → TextRead n i at NoKey (length t) → TextRead n (i + 1) at k 0
  behind at t k e w = record { begun = w.begun; so_far = omega (arith, w.so_far, key_of_length t k e, no_key_written) }

  -- a part begins at this byte
  here : WithinPart n (unlabelled i NoKey reference)
  here = record { at = h; text = omega (arith, no_key_written); value = tt; label = tt }

  number_at : (x : ℕ) (d : Digits) (y : Number ℕ) → number_end x d ≡ some y → x ≡ y.at
  unfolding number_end
  number_at x (signed s) y e = let z : ◌≡◌ {A = ℕ} 0 1 = cc in absurd (omega arith)
  number_at x (whole s m) y e = ap (λ o. given o (λ z. z.at) x) e
  number_at x (pointed s m) y e = let z : ◌≡◌ {A = ℕ} 0 1 = cc in absurd (omega arith)
  number_at x (broken s m d) y e = ap (λ o. given o (λ z. z.at) x) e

  valued_within : {s : Inner ℕ} {c : Context ℕ} {p : Part ℕ} → Valued s c p → WithinInner n i s → Each (WithinPart n) c.parts × WithinPart n p
  unfolding WithinInner
  valued_within of_plain g = (g.0, over _ NoKey _ g.1)
  valued_within (of_number {n = x} {d = d} {x = y} e) g = (g.0, weighed _ _ y g.1 (subst (λ z. z < n) (number_at x d y e) g.2))
  valued_within of_code g = (g.0, over _ _ _ g.1)
  valued_within of_text g = (g.0, over _ _ _ g.1)

  over_within : {s : Inner ℕ} {c : Context ℕ} {p : Part ℕ} → Over s c p → WithinInner n i s → Each (WithinPart n) (c.parts ++ (p ∷ []))
  unfolding WithinInner
  over_within {c = c} {p = p} (of_value v) g = let w = valued_within v g in each_append (WithinPart n) c.parts (p ∷ []) w.0 (w.1, tt)
  over_within (of_label {c = c} {p = p} {at = at} {name = name}) g =
      each_append (WithinPart n) c.parts _ g.0 (tagged p at name none g.1 g.2 tt, tt)
  over_within (of_score {c = c}) g = each_append (WithinPart n) c.parts _ g.0 (g.1, tt)

  on_within : {b : ℕ} {s t : Inner ℕ} → On i b s t → WithinInner n i s → WithinInner n (i + 1) t
  unfolding WithinInner
  on_within (mass_begins e) g = (g, here, h)
  on_within (plain_begins e) g = (g, fresh)
  on_within (text_begins e) g = (g, fresh)
  on_within (refers e) g = (g, here)
  on_within {b = b} (plain_on {t = t} e) g = (g.0, longer _ NoKey t b g.1)
  on_within {b = b} (plain_text_lem {t = t} e) g = (g.0, longer _ NoKey t b g.1)
  on_within (no_key {t = t} e f) g = (g.0, longer _ NoKey t colon g.1)
  on_within (key_name {t = t} {k = k} e f a) g = (g.0, behind _ t k f g.1)
  on_within (key_code_lem {t = t} {k = k} e f a) g = (g.0, behind _ t k f g.1)
  on_within (key_text {t = t} {k = k} e f a) g = (g.0, behind _ t k f g.1)
  on_within (keyed_mass e) g = (g.0, record { at = g.1.begun; text = omega (arith, g.1.so_far); value = tt; label = tt }, h)
  on_within {b = b} (keyed_text {k = k} a e) g = (g.0, longer _ k [] b g.1)
  on_within (mass_on e) g = g
  on_within {b = b} (code_on {k = k} {t = t} e) g = (g.0, longer _ k t b g.1)
  on_within {b = b} (text_on {k = k} {t = t} e) g = (g.0, longer _ k t b g.1)
  on_within (hash_on v e) g = valued_within v g
  on_within (label_begins e) g = (g.0, g.1, h)
  on_within (label_on e) g = g
  on_within (score_opens e) g = g
  on_within (score_sign e) g = (g.0, g.1, g.2, h)
  on_within (score_digit e) g = (g.0, g.1, g.2, h)
  on_within (score_on e) g = g
  on_within (score_over {p = p} {at = at} {name = name} {n = x} {d = d} {x = y} e f) g =
      (g.0, tagged p at name (some y) g.1 g.2 (subst (λ z. z < n) (number_at x d y f) g.3))

  goes_within : {b : ℕ} {s : Inner ℕ} {x : Content ℕ} → Goes i b s x → WithinInner n i s → WithinContent n (i + 1) x
  unfolding WithinContent WithinInner
  goes_within stops g = tt
  goes_within (goes_on_lem o) g = on_within o g
  goes_within (part_over o e) g = over_within o g
  goes_within (shuts o e) g = over_within o g

  with_residue_within : (b : ℕ) (s : Section) (r : Held ℕ) → WithinHeld n r → WithinHeld n (with_residue i b s r)
  with_residue_within b s r g =
      record { residues = each_append (WithinResidue n) r.residues _ g.residues (h, tt); brackets = g.brackets; run = g.run }

  put_within : (k : Kind) (x : Bracket ℕ) (r : Held ℕ) → WithinBracket n x → WithinHeld n r → WithinHeld n (put k x r)
  put_within k x r w g =
      put_by (WithinHeld n) k x r
      (λ u. record { residues = g.residues; brackets = g.brackets; run = each_append (WithinBracket n) r.run _ g.run (w, tt) })
      (λ u. record { residues = g.residues; brackets = each_append (WithinBracket n) r.brackets _ g.brackets (w, tt); run = g.run })

  count_digit_within : (b : ℕ) (k : Bracket ℕ) → WithinBracket n k → WithinBracket n (count_digit i b k)
  count_digit_within b k w =
      on_given (WithinBracket n) k.counted
      (λ p e. record { at = w.at; counted = subst (OfGiven (λ x. x < n)) e w.counted; parts = w.parts; places = w.places })
      (record { at = w.at; counted = h; parts = w.parts; places = w.places })

  settled_run_within : (f : Bracket ℕ → Bracket ℕ) → ((k : Bracket ℕ) → WithinBracket n k → WithinBracket n (f k)) → (r : Held ℕ) → WithinHeld n r
      → WithinHeld n (settled_run f r)
  settled_run_within f e r g =
      record {
        residues = g.residues;
        brackets = each_append (WithinBracket n) r.brackets _ g.brackets (each_through (WithinBracket n) (WithinBracket n) f e r.run g.run);
        run = tt;
      }

  perform_within : (b : ℕ) (r : Held ℕ) (a : Act) → WithinHeld n r → WithinState n (i + 1) (perform i b r a)
  unfolding perform WithinState WithinInner WithinPlacing
  perform_within b r Stop g = tt
  perform_within b r (Go m) g = g
  perform_within b r (a_residue s m) g = with_residue_within b s r g
  perform_within b r (Begin s) g = (g, h, tt)
  perform_within b r Digit g =
      record {
        residues = g.residues;
        brackets = g.brackets;
        run = each_last (WithinBracket n) (count_digit i b) (count_digit_within b) r.run g.run;
      }
  perform_within b r RunEnds g = settled_run_within (λ k. k) (λ k w. w) r g
  perform_within b r TermEnds g =
      settled_run_within as_nTerm (λ k w. record { at = w.at; counted = w.counted; parts = w.parts; places = w.places }) r g
  perform_within b r Places g = (g, tt)

  resume_within : (s : Slot) (at : ℕ) (r : Held ℕ) (c : Content ℕ) → WithinHeld n r → at < n → WithinContent n (i + 1) c
      → WithinState n (i + 1) (resume s at r i c)
  unfolding resume WithinState WithinContent
  resume_within s at r lost g q w = tt
  resume_within s at r (closed ps) g q w =
      put_within s.kind (bracket_of s.kind at ps r) r (record { at = q; counted = tt; parts = w; places = tt }) g
  resume_within s at r (going c) g q w = (g, q, w)

  -- the places of a declaration
  owed_within : (ps : List (Place ℕ)) (p : Place ℕ) (w : List ℕ) → Each (WithinPlace n) ps → WithinPlace n p → WithinPlacing n (owed ps p w)
  unfolding WithinPlacing
  owed_within ps p [] g q = (g, q)
  owed_within ps p (x ∷ w) g q = (g, q)

  place_within : {b : ℕ} {s t : Placing ℕ} → PlaceOn i b s t → WithinPlacing n s → WithinPlacing n t
  unfolding WithinPlacing
  place_within (place_begins e) g = (g, h)
  place_within (place_over {ps = ps} {p = p} e) g = each_append (WithinPlace n) ps (p ∷ []) g.0 (g.1, tt)
  place_within (word_begins {ps = ps} {p = p} {s = s} e f) g = owed_within ps (record { site = s; at = p.at }) (bytes "term") g.0 g.1
  place_within (word_on {ps = ps} {p = p} {w = w} e) g = owed_within ps p w g.0 g.1

  with_places_within : (ps : List (Place ℕ)) (r : Held ℕ) → Each (WithinPlace n) ps → WithinHeld n r → WithinHeld n (with_places ps r)
  with_places_within ps r w g =
      record {
        residues = g.residues;
        brackets = each_last (WithinBracket n) (declared_at ps) (λ k v. record { at = v.at; counted = v.counted; parts = v.parts; places = w }) r.brackets g.brackets;
        run = g.run;
      }

  places_within : {b : ℕ} {r : Held ℕ} {s : Placing ℕ} {x : State ℕ} → PlacesGo i b r s x → WithinHeld n r → WithinPlacing n s → WithinState n (i + 1) x
  unfolding WithinState WithinPlacing
  places_within (places_on o) g w = (g, place_within o w)
  places_within {r = r} (places_over {ps = ps} {p = p} e) g w = with_places_within (ps ++ (p ∷ [])) r (each_append (WithinPlace n) ps (p ∷ []) w.0 (w.1, tt)) g
  places_within places_stop g w = tt

  step_within : (s : State ℕ) (b : ℕ) → WithinState n i s → WithinState n (i + 1) (step i s b)
  unfolding step WithinState
  step_within (dead p) b g = tt
  step_within (outside m r) b g = perform_within b r (act m b) g
  step_within (inside s at r c) b g = resume_within s at r (inner_step i c b) g.0 g.1 (goes_within (goes i b c) g.2)
  step_within (placing r s) b g = places_within (places_go i b r s) g.0 g.1

-- a line of the order holds places inside it
pub reading_within : (s : List ℕ) (l : Line ℕ) → reading s ≡ holds l → WithinLine (length s) l
unfolding WithinState
reading_within s l e =
    let n = length s in
    let w = reading_whole_from (λ i x. i ≤ n → WithinState n i x) (λ b. Unit {0})
    (λ i x b r g q. step_within n i (omega arith) x b (g (omega arith))) (λ q. record { residues = tt; brackets = tt; run = tt }) s l (each_all (λ b. Unit {0}) s (λ b. tt)) e in
    let g = w.keeps (omega arith) in
    subst (WithinLine n) w.line (record { residues = g.residues; brackets = g.brackets })
