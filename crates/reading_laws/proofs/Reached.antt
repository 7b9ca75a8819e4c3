-- What holds of every state that is reached from the start: a bracket is closed by `]` or `}`, so is each pair in a text, an accession stands
-- only behind a key that has one, and what is owed of a terminus are letters.
use Rattle.std.specs.Prelude.{ℕ, ◌≡◌, Bool, true, false, not, ◌&&◌, ◌||◌, List, [], ◌∷◌, eqb}
use Rattle.std.proofs.Math.Path.{refl}
use Rattle.std.proofs.Common.{sym, subst, eqb-true}
use Rattle.std.proofs.Math.Option.{some}
use Rattle.scope.specs.declared.grammar.Slot.{Slot}
use Rattle.scope.specs.declared.grammar.Act.{Act}
use Rattle.scope.specs.declared.grammar.Act.TheVariants.{Stop, Go, Residue as a_residue, Begin, Digit, RunEnds, TermEnds, Places}
use Rattle.scope.specs.Bytes.{upper, is_printable, is_opening, is_shutting, closer_of, hash, colon, open_square}
use Rattle.scope.specs.Keys.{form, accession_byte}
use Rattle.scope.specs.Line.{Place, Part}
use Rattle.scope.specs.Content.{is_plain, text_step, Context, Inner, begin, plain, keyed, in_number, in_code, in_text, hashed, in_label, scoring, in_score, scored, Content, lost, closed, going, inner_step}
use Rattle.scope.specs.Reading.{act, Held, State, dead, outside, inside, placing, perform, resume, step, run}
use Rattle.scope.specs.Places.{Placing, expected, placed, owing, owed}
use Rattle.basics.specs.Choice.{branch}
use Rattle.basics.specs.Each.{Each, OfGiven}
use Rattle.reading_laws.proofs.Acts.{of_slot, act_rule}
use Rattle.reading_laws.proofs.Goes.{Valued, of_plain, of_number, of_code, of_text, Over, of_value, of_label, of_score, On, mass_begins, plain_begins, text_begins, refers, plain_on, plain_text_lem, no_key, key_name, key_code_lem, key_text, keyed_mass, keyed_text, mass_on, code_on, text_on, hash_on, label_begins, label_on, score_opens, score_sign, score_digit, score_on, score_over, Goes, stops, goes_on_lem, part_over, shuts, goes}
use Rattle.reading_laws.proofs.Listed.{PlaceOn, place_begins, place_over, word_begins, word_on, PlacesGo, places_on, places_over, places_stop, places_go}
use Rattle.reading_laws.proofs.Kept.{kept}

pub data Closer : ℕ → Type 0 where
  square : Closer 93
  curly : Closer 125

abbrev pub Closers : List ℕ → Type 0
Closers cs = Each Closer cs

abbrev pub Good : {P : Type 0} → Inner P → Type 0
Good (begin c) = Closer c.shut
Good (plain c at t) = Closer c.shut
Good (keyed c at k) = Closer c.shut
Good (in_number c at k n d) = Closer c.shut
Good (in_code c at k t) = Closer c.shut × (accession_byte (form k) 48 ≡ true)
Good (in_text c at k t cs) = Closer c.shut × Closers cs
Good (hashed c p) = Closer c.shut
Good (in_label c p at name) = Closer c.shut
Good (scoring c p at name) = Closer c.shut
Good (in_score c p at name n d) = Closer c.shut
Good (scored c p) = Closer c.shut

-- in upper case, as they are compared
abbrev pub Owed : List ℕ → Type 0
Owed w = Each (λ x. is_printable (upper x) ≡ true) w

abbrev pub GoodPlacing : {P : Type 0} → Placing P → Type 0
GoodPlacing (expected ps) = Unit {0}
GoodPlacing (placed ps p) = Unit {0}
GoodPlacing (owing ps p x w) = Owed (x ∷ w)

abbrev pub GoodState : {P : Type 0} → State P → Type 0
GoodState (dead p) = Unit {0}
GoodState (outside m h) = Unit {0}
GoodState (inside s at h c) = Good c
GoodState (placing h s) = GoodPlacing s

-- ---- texts
closer_of_closer : (b : ℕ) → Closer (closer_of b)
closer_of_closer b = branch Closer (eqb b open_square) square curly

text_step_closers : (h : Bool) (cs : List ℕ) (b : ℕ) → Closers cs → OfGiven Closers (text_step h cs b)
unfolding text_step
text_step_closers h [] b w =
    branch (OfGiven Closers) (is_plain b || eqb b colon || h && eqb b hash) tt
    (branch (OfGiven Closers) (is_opening b) (closer_of_closer b, tt) tt)
text_step_closers h (c ∷ cs) b w =
    branch (OfGiven Closers) (is_opening b) (closer_of_closer b, w)
    (branch (OfGiven Closers) (eqb b c) w.1 (branch (OfGiven Closers) (is_printable b && not (is_shutting b)) w tt))

-- the closers that are owed after a byte
closers_after : (h : Bool) (cs : List ℕ) (b : ℕ) (ds : List ℕ) → text_step h cs b ≡ some ds → Closers cs → Closers ds
closers_after h cs b ds e w = subst (OfGiven Closers) e (text_step_closers h cs b w)

-- ---- brackets
module _ {P : Type 0} where
  GoodContent : Content P → Type 0
  GoodContent lost = Unit {0}
  GoodContent (closed ps) = Unit {0}
  GoodContent (going c) = Good c

  pub valued_good : {s : Inner P} {c : Context P} {p : Part P} → Valued s c p → Good s → Closer c.shut
  valued_good of_plain g = g
  valued_good (of_number e) g = g
  valued_good of_code g = g.0
  valued_good of_text g = g.0

  pub over_good : {s : Inner P} {c : Context P} {p : Part P} → Over s c p → Good s → Closer c.shut
  over_good (of_value v) g = valued_good v g
  over_good of_label g = g
  over_good of_score g = g

  on_good : {i : P} {b : ℕ} {s t : Inner P} → On i b s t → Good s → Good t
  on_good (mass_begins e) g = g
  on_good (plain_begins e) g = g
  on_good {b = b} (text_begins e) g = (g, closers_after false [] b _ e tt)
  on_good (refers e) g = g
  on_good (plain_on e) g = g
  on_good {b = b} (plain_text_lem e) g = (g, closers_after false [] b _ e tt)
  on_good (no_key e f) g = (g, tt)
  on_good (key_name e f a) g = g
  on_good (key_code_lem e f a) g = (g, a)
  on_good (key_text e f a) g = (g, tt)
  on_good (keyed_mass e) g = g
  on_good {b = b} (keyed_text a e) g = (g, closers_after false [] b _ e tt)
  on_good (mass_on e) g = g
  on_good (code_on e) g = g
  on_good {b = b} (text_on e) g = (g.0, closers_after _ _ b _ e g.1)
  on_good (hash_on v e) g = valued_good v g
  on_good (label_begins e) g = g
  on_good (label_on e) g = g
  on_good (score_opens e) g = g
  on_good (score_sign e) g = g
  on_good (score_digit e) g = g
  on_good (score_on e) g = g
  on_good (score_over e f) g = g

  goes_good : {i : P} {b : ℕ} {s : Inner P} {x : Content P} → Goes i b s x → Good s → GoodContent x
  unfolding GoodContent
  goes_good stops g = tt
  goes_good (goes_on_lem o) g = on_good o g
  goes_good (part_over o e) g = over_good o g
  goes_good (shuts o e) g = tt

-- ---- places
module _ {P : Type 0} where
  owed_good : (ps : List (Place P)) (p : Place P) (w : List ℕ) → Owed w → GoodPlacing (owed ps p w)
  owed_good ps p [] g = tt
  owed_good ps p (x ∷ w) g = g

  place_good : {i : P} {b : ℕ} {s t : Placing P} → PlaceOn i b s t → GoodPlacing s → GoodPlacing t
  unfolding upper
  place_good (place_begins e) g = tt
  place_good (place_over e) g = tt
  place_good (word_begins e f) g = (refl, (refl, (refl, (refl, tt))))
  place_good (word_on {ps = ps} {p = p} {w = w} e) g = owed_good ps p w g.1

  places_good : {i : P} {b : ℕ} {h : Held P} {s : Placing P} {x : State P} → PlacesGo i b h s x → GoodPlacing s → GoodState x
  places_good (places_on o) g = place_good o g
  places_good (places_over e) g = tt
  places_good places_stop g = tt

-- ---- lines
pub closer : (n : ℕ) → is_shutting n ≡ true → Closer n
closer n e = go (eqb n 93) (eqb n 125) refl refl e
  where
    go : (t u : Bool) → eqb n 93 ≡ t → eqb n 125 ≡ u → (t || u) ≡ true → Closer n
    go true u p q f = subst Closer (sym (eqb-true n 93 p)) square
    go false u p q f = subst Closer (sym (eqb-true n 125 (rw f at q))) curly

abbrev good_act : Act → Bool
good_act a = of_slot (λ s. is_shutting s.shut) a

module _ {P : Type 0} where
  perform_good : (i : P) (b : ℕ) (h : Held P) (a : Act) → good_act a ≡ true → GoodState (perform i b h a)
  unfolding perform
  perform_good i b h Stop g = tt
  perform_good i b h (Go m) g = tt
  perform_good i b h (a_residue s m) g = tt
  perform_good i b h (Begin s) g = closer s.shut g
  perform_good i b h Digit g = tt
  perform_good i b h RunEnds g = tt
  perform_good i b h TermEnds g = tt
  perform_good i b h Places g = tt

  resume_good : (s : Slot) (at : P) (h : Held P) (i : P) (c : Content P) → GoodContent c → GoodState (resume s at h i c)
  unfolding resume GoodContent
  resume_good s at h i lost g = tt
  resume_good s at h i (closed ps) g = tt
  resume_good s at h i (going c) g = g

  pub step_good : (i : P) (s : State P) (b : ℕ) → GoodState s → GoodState (step i s b)
  unfolding step
  step_good i (dead p) b g = tt
  step_good i (outside m h) b g = perform_good i b h (act m b) (act_rule (λ m. good_act) refl m b)
  step_good i (inside s at h c) b g = resume_good s at h i (inner_step i c b) (goes_good (goes i b c) g)
  step_good i (placing h s) b g = places_good (places_go i b h s) g

  pub run_good : (note : ℕ → P) (i : ℕ) (s : State P) (l : List ℕ) → GoodState s → GoodState (run note i s l)
  run_good note = kept note GoodState step_good
