-- Every state that is reached and not dead can be finished: some bytes lead from it to where a line may end.
use Rattle.std.specs.Prelude.{ℕ, zero, suc, ◌+◌, ◌*◌, ◌≡◌, Bool, ◌&&◌, ◌||◌}
use Rattle.std.proofs.Math.Path.{refl}
use Rattle.std.proofs.Common.{sym, ap, ◌∙◌}
use Rattle.std.proofs.Math.Logic.{⊎_elim}
use Rattle.std.proofs.Math.Bool.{true, false}
use Rattle.std.proofs.lemmas.Bool.{false≢true}
use Rattle.std.proofs.Math.Option.{none, some}
use mathlib.Core.List.{List, [], ◌∷◌, ◌++◌}
use Rattle.std.proofs.Math.Dec.{eqb}
use borrow.Author.Tests.{eq-eqb}
use Rattle.scope.specs.declared.grammar.Key.{Key}
use Rattle.scope.specs.declared.grammar.Key.TheVariants.{NoKey}
use Rattle.scope.specs.declared.grammar.Mode.{Mode}
use Rattle.scope.specs.declared.grammar.Mode.TheVariants.{Front, Runs, Counting, Start}
use Rattle.scope.specs.declared.grammar.Slot.{Slot}
use Rattle.scope.specs.declared.grammar.Act.{Act}
use Rattle.scope.specs.declared.grammar.Act.TheVariants.{Stop, Go, Residue as a_residue, Begin, Digit, RunEnds, TermEnds, Places}
use Rattle.scope.specs.Bytes.{upper, is_shutting}
use Rattle.scope.specs.Keys.{Form, mass_or_name, mass_only, digits, alnums, free, composed, form, hash_is_plain, accession_byte}
use Rattle.scope.specs.Line.{mass, text, Place, Part}
use Rattle.scope.specs.Content.{Digits, signed, whole, pointed, broken, digit_step, number_of, number_end, text_step, Context, Inner, begin, plain, keyed, in_number, in_code, in_text, hashed, in_label, scoring, in_score, scored, closed, going, unlabelled, labelled, part_end, value_end, text_end, inner_step}
use Rattle.scope.specs.Reading.{element, further, group_first, in_group, undecided, counted, referred, act, may_end, Held, with_bracket, State, dead, outside, inside, placing, perform, mode_after, resume, step, run}
use Rattle.scope.specs.Places.{Placing, expected, placed, owing, place_step, places_end}
use Rattle.reading_laws.proofs.Run.{run_nil, run_cons}
use Rattle.basics.specs.Tests.{and_left, and_right, one_of}
use Rattle.reading_laws.proofs.Acts.{each_mode}
use Rattle.reading_laws.proofs.Reached.{Closer, square, curly, closer, Closers, Good, GoodState}

abbrev pub Alive : {P : Type 0} → State P → Type 0
Alive (dead p) = ⊥
Alive (outside m h) = Unit {0}
Alive (inside s at h c) = Unit {0}
Alive (placing h s) = Unit {0}

-- bytes that lead from a state, at a place, to where a line may end
pub record Finished {P : Type 0} (note : ℕ → P) (i : ℕ) (s : State P) : Type 0 where
  pub bytes : List ℕ
  pub mode : Mode
  pub held : Held P
  pub goes : run note i s bytes ≡ outside mode held
  pub ends : may_end mode ≡ true

module _ {P : Type 0} (note : ℕ → P) where
  now : (i : ℕ) (m : Mode) (h : Held P) → may_end m ≡ true → Finished note i (outside m h)
  now i m h e = record { bytes = []; mode = m; held = h; goes = run_nil note i (outside m h); ends = e }

  -- one byte more
  then : (i : ℕ) (s : State P) (b : ℕ) → Finished note (i + 1) (step (note i) s b) → Finished note i s
  then i s b r =
      record {
        bytes = b ∷ r.bytes;
        mode = r.mode;
        held = r.held;
        goes = run_cons note i s b r.bytes ∙ r.goes;
        ends = r.ends;
      }

  is : (i : ℕ) (s t : State P) → s ≡ t → Finished note i t → Finished note i s
  is i s t e r = rw e r

-- ---- the byte that closes a bracket
module _ {P : Type 0} (c : Context P) where
  part_end_shut : (y : ℕ) (p : Part P) → c.shut ≡ y → part_end c p y ≡ closed (c.parts ++ (p ∷ []))
  unfolding part_end
  part_end_shut y p e = let q : eqb y c.shut ≡ true = eq-eqb y c.shut (sym e) in rw q

  value_end_shut : {y : ℕ} (p : Part P) → Closer y → c.shut ≡ y → value_end c p y ≡ closed (c.parts ++ (p ∷ []))
  unfolding value_end
  value_end_shut p square e = part_end_shut 93 p e
  value_end_shut p curly e = part_end_shut 125 p e

  plain_shut : {y : ℕ} (i at : P) (t : List ℕ) → Closer y → c.shut ≡ y
      → inner_step i (plain c at t) y ≡ closed (c.parts ++ (unlabelled at NoKey (text t) ∷ []))
  unfolding inner_step text_step
  plain_shut i at t square e = value_end_shut _ square e
  plain_shut i at t curly e = value_end_shut _ curly e

  whole_shut : {y : ℕ} (i at n : P) (k : Key) (s : Bool) (m : ℕ) → Closer y → c.shut ≡ y
      → inner_step i (in_number c at k n (whole s m)) y ≡ closed (c.parts ++ (unlabelled at k (mass (number_of n s m 0)) ∷ []))
  unfolding inner_step digit_step number_end
  whole_shut i at n k s m square e = value_end_shut _ square e
  whole_shut i at n k s m curly e = value_end_shut _ curly e

  broken_shut : {y : ℕ} (i at n : P) (k : Key) (s : Bool) (m d : ℕ) → Closer y → c.shut ≡ y
      → inner_step i (in_number c at k n (broken s m d)) y ≡ closed (c.parts ++ (unlabelled at k (mass (number_of n s m d)) ∷ []))
  unfolding inner_step digit_step number_end
  broken_shut i at n k s m d square e = value_end_shut _ square e
  broken_shut i at n k s m d curly e = value_end_shut _ curly e

  accession_shut : {y : ℕ} (q : Form) → Closer y → accession_byte q y ≡ false
  accession_shut mass_or_name w = refl
  accession_shut mass_only w = refl
  accession_shut digits square = refl
  accession_shut digits curly = refl
  accession_shut alnums square = refl
  accession_shut alnums curly = refl
  accession_shut free w = refl
  accession_shut composed w = refl

  code_shut : {y : ℕ} (i at : P) (k : Key) (x : ℕ) (t : List ℕ) → Closer y → c.shut ≡ y
      → inner_step i (in_code c at k (x ∷ t)) y ≡ closed (c.parts ++ (unlabelled at k (text (x ∷ t)) ∷ []))
  unfolding inner_step text_end
  code_shut {y = y} i at k x t w e = let q : accession_byte (form k) y ≡ false = accession_shut (form k) w in rw q (value_end_shut _ w e)

  text_none : {y : ℕ} (h : Bool) → Closer y → text_step h [] y ≡ none
  unfolding text_step
  text_none true square = refl
  text_none true curly = refl
  text_none false square = refl
  text_none false curly = refl

  text_shut : {y : ℕ} (i at : P) (k : Key) (x : ℕ) (t : List ℕ) → Closer y → c.shut ≡ y
      → inner_step i (in_text c at k (x ∷ t) []) y ≡ closed (c.parts ++ (unlabelled at k (text (x ∷ t)) ∷ []))
  unfolding inner_step text_end
  text_shut {y = y} i at k x t w e =
      let q : text_step (hash_is_plain (form k)) [] y ≡ none = text_none (hash_is_plain (form k)) w in rw q (value_end_shut _ w e)

  label_shut : {y : ℕ} (i at : P) (p : Part P) (name : List ℕ) → Closer y → c.shut ≡ y
      → inner_step i (in_label c p at name) y ≡ closed (c.parts ++ (labelled p at name none ∷ []))
  unfolding inner_step
  label_shut i at p name square e = part_end_shut 93 _ e
  label_shut i at p name curly e = part_end_shut 125 _ e

  scored_shut : {y : ℕ} (i : P) (p : Part P) → c.shut ≡ y → inner_step i (scored c p) y ≡ closed (c.parts ++ (p ∷ []))
  unfolding inner_step
  scored_shut {y = y} i p e = part_end_shut y p e

-- a byte that closes a pair of a text
pair_shut : {P : Type 0} {o : ℕ} (c : Context P) (i at : P) (k : Key) (t cs : List ℕ) → Closer o
    → inner_step i (in_text c at k t (o ∷ cs)) o ≡ going (in_text c at k (t ++ (o ∷ [])) cs)
unfolding inner_step text_step
pair_shut c i at k t cs square = refl
pair_shut c i at k t cs curly = refl

-- ---- outside brackets: from each mode one of the bytes `A`, `1`, `?`, `-`, `)`, `>`, or `[A]`, or `@A>`, leads nearer to where a line may end
abbrev tried : List ℕ
tried = 65 ∷ 49 ∷ 63 ∷ 45 ∷ 41 ∷ 62 ∷ 91 ∷ 64 ∷ []

-- what a byte does leads to a mode that passes, or begins a bracket or places that do
abbrev leads_to : (Mode → Bool) → Act → Bool
leads_to F Stop = false
leads_to F (Go m) = F m
leads_to F (a_residue s m) = F m
leads_to F (Begin s) = is_shutting s.shut && F s.after
leads_to F Digit = F Counting
leads_to F RunEnds = F Runs
leads_to F TermEnds = F Start
leads_to F Places = F Front

abbrev some_lead : (Mode → Bool) → Mode → List ℕ → Bool
some_lead F m [] = false
some_lead F m (b ∷ l) = leads_to F (act m b) || some_lead F m l

-- a line may end within n of these
abbrev near : ℕ → Mode → Bool
near zero m = may_end m
near (suc n) m = may_end m || some_lead (near n) m tried

each_near : (m : Mode) → near 3 m ≡ true
unfolding act element further group_first in_group undecided counted referred
each_near = each_mode (near 3) refl

module _ {P : Type 0} (note : ℕ → P) where
  abbrev Ends : (Mode → Bool) → Type 0
  Ends F = (m : Mode) → F m ≡ true → (i : ℕ) (h : Held P) → Finished note i (outside m h)

  -- the bracket `[A]`
  bracket_finished : (F : Mode → Bool) → Ends F → (i : ℕ) (s : Slot) (from : P) (h : Held P) → is_shutting s.shut ≡ true → F s.after ≡ true
      → Finished note i (inside s from h (begin (record { shut = s.shut; refers = s.refers; labels = s.labels; parts = [] })))
  unfolding step inner_step resume
  bracket_finished F f i s from h c e =
      then note i _ 65
      (then note (i + 1) _ s.shut
      (is note (i + 1 + 1) _ (outside s.after _) (ap (resume s from h (note (i + 1))) (plain_shut _ (note (i + 1)) (note i) (65 ∷ []) (closer s.shut c) refl)) (f s.after e (i + 1 + 1) _)))

  -- places: those read, or the letter `A`, or what is owed of a terminus
  module _ (F : Mode → Bool) (f : Ends F) (e : F Front ≡ true) (h : Held P) where
    placed_finished : (i : ℕ) (ps : List (Place P)) (p : Place P) → Finished note i (placing h (placed ps p))
    unfolding step place_step places_end perform act
    placed_finished i ps p = then note i _ 62 (f Front e (i + 1) _)

    owing_finished : (i : ℕ) (ps : List (Place P)) (p : Place P) (x : ℕ) (w : List ℕ) → Finished note i (placing h (owing ps p x w))
    unfolding step place_step
    owing_finished i ps p x [] =
        then note i _ x (is note (i + 1) _ (placing h (placed ps p)) (rw (eq-eqb (upper x) (upper x) refl)) (placed_finished (i + 1) ps p))
    owing_finished i ps p x (y ∷ w) =
        then note i _ x (is note (i + 1) _ (placing h (owing ps p y w)) (rw (eq-eqb (upper x) (upper x) refl)) (owing_finished (i + 1) ps p y w))

    places_finished : (i : ℕ) (s : Placing P) → Finished note i (placing h s)
    unfolding step place_step
    places_finished i (expected ps) = then note i _ 65 (placed_finished (i + 1) ps _)
    places_finished i (placed ps p) = placed_finished i ps p
    places_finished i (owing ps p x w) = owing_finished i ps p x w

  act_finished : (F : Mode → Bool) → Ends F → (a : Act) → leads_to F a ≡ true → (i b : ℕ) (h : Held P) → Finished note (i + 1) (perform (note i) b h a)
  unfolding perform
  act_finished F f Stop e i b h = absurd (false≢true e)
  act_finished F f (Go m) e i b h = f m e (i + 1) h
  act_finished F f (a_residue s m) e i b h = f m e (i + 1) _
  act_finished F f (Begin s) e i b h = bracket_finished F f (i + 1) s (note i) h (and_left _ _ e) (and_right (is_shutting s.shut) _ e)
  act_finished F f Digit e i b h = f Counting e (i + 1) _
  act_finished F f RunEnds e i b h = f Runs e (i + 1) _
  act_finished F f TermEnds e i b h = f Start e (i + 1) _
  act_finished F f Places e i b h = places_finished F f e h (i + 1) (expected [])

  some_finished : (F : Mode → Bool) → Ends F → (m : Mode) (l : List ℕ) → some_lead F m l ≡ true → (i : ℕ) (h : Held P) → Finished note i (outside m h)
  unfolding step
  some_finished F f m [] e i h = absurd (false≢true e)
  some_finished F f m (b ∷ l) e i h =
      ⊎_elim (λ g. then note i (outside m h) b (act_finished F f (act m b) g i b h)) (λ g. some_finished F f m l g i h) (one_of (leads_to F (act m b)) _ e)

  near_finished : (n : ℕ) → Ends (near n)
  near_finished zero m e i h = now note i m h e
  near_finished (suc n) m e i h = ⊎_elim (now note i m h) (λ g. some_finished (near n) (near_finished n) m tried g i h) (one_of (may_end m) _ e)

  outside_finished : (i : ℕ) (m : Mode) (h : Held P) → Finished note i (outside m h)
  outside_finished i m h = near_finished 3 m (each_near m) i h

-- ---- inside brackets
module _ {P : Type 0} (note : ℕ → P) (s : Slot) (from : P) (h : Held P) where
  -- the bracket goes on
  on : (i b : ℕ) (c d : Inner P) → inner_step (note i) c b ≡ going d → Finished note (i + 1) (inside s from h d) → Finished note i (inside s from h c)
  unfolding step resume
  on i b c d e r =
      then note i (inside s from h c) b (is note (i + 1) _ (inside s from h d) (ap (resume s from h (note i)) e) r)

  -- the bracket is closed
  shut : (i b : ℕ) (c : Inner P) (ps : List (Part P)) → inner_step (note i) c b ≡ closed ps → Finished note i (inside s from h c)
  unfolding step resume
  shut i b c ps e =
      then note i (inside s from h c) b
      (is note (i + 1) _ (outside (mode_after s ps) (with_bracket s.kind from ps h)) (ap (resume s from h (note i)) e)
      (outside_finished note (i + 1) _ _))

  module _ (c : Context P) (w : Closer c.shut) where
    plain_finished : (i : ℕ) (at : P) (t : List ℕ) → Finished note i (inside s from h (plain c at t))
    plain_finished i at t = shut i c.shut _ _ (plain_shut c (note i) at t w refl)

    number_finished : (i : ℕ) (at : P) (k : Key) (n : P) (d : Digits) → Finished note i (inside s from h (in_number c at k n d))
    unfolding inner_step digit_step
    number_finished i at k n (signed m) = on i 48 _ _ refl (shut (i + 1) c.shut _ _ (whole_shut c (note (i + 1)) at n k m 0 w refl))
    number_finished i at k n (whole m x) = shut i c.shut _ _ (whole_shut c (note i) at n k m x w refl)
    number_finished i at k n (pointed m x) =
        on i 48 _ _ refl (shut (i + 1) c.shut _ _ (broken_shut c (note (i + 1)) at n k m (x * 10 + 0) 1 w refl))
    number_finished i at k n (broken m x d) = shut i c.shut _ _ (broken_shut c (note i) at n k m x d w refl)

    code_finished : (i : ℕ) (at : P) (k : Key) (t : List ℕ) → accession_byte (form k) 48 ≡ true → Finished note i (inside s from h (in_code c at k t))
    unfolding inner_step
    code_finished i at k [] q =
        on i 48 _ (in_code c at k (48 ∷ [])) (rw q) (shut (i + 1) c.shut _ _ (code_shut c (note (i + 1)) at k 48 [] w refl))
    code_finished i at k (x ∷ t) q = shut i c.shut _ _ (code_shut c (note i) at k x t w refl)

    -- a text in which `A` is plain, whether `#` is or not
    a_plain : (f : Form) → text_step (hash_is_plain f) [] 65 ≡ some []
    unfolding text_step
    a_plain mass_or_name = refl
    a_plain mass_only = refl
    a_plain digits = refl
    a_plain alnums = refl
    a_plain free = refl
    a_plain composed = refl

    text_finished : (i : ℕ) (at : P) (k : Key) (t cs : List ℕ) → Closers cs → Finished note i (inside s from h (in_text c at k t cs))
    unfolding inner_step
    text_finished i at k [] [] v =
        on i 65 _ (in_text c at k (65 ∷ []) []) (rw (a_plain (form k))) (shut (i + 1) c.shut _ _ (text_shut c (note (i + 1)) at k 65 [] w refl))
    text_finished i at k (x ∷ t) [] v = shut i c.shut _ _ (text_shut c (note i) at k x t w refl)
    text_finished i at k t (o ∷ cs) v =
        on i o _ _ (pair_shut c (note i) at k t cs v.0) (text_finished (i + 1) at k (t ++ (o ∷ [])) cs v.1)

    label_finished : (i : ℕ) (p : Part P) (at : P) (name : List ℕ) → Finished note i (inside s from h (in_label c p at name))
    label_finished i p at name = shut i c.shut _ _ (label_shut c (note i) at p name w refl)

    scored_finished : (i : ℕ) (p : Part P) → Finished note i (inside s from h (scored c p))
    scored_finished i p = shut i c.shut _ _ (scored_shut c (note i) p refl)

    score_finished : (i : ℕ) (p : Part P) (at : P) (name : List ℕ) (n : P) (d : Digits) → Finished note i (inside s from h (in_score c p at name n d))
    unfolding inner_step digit_step number_end
    score_finished i p at name n (signed m) = on i 48 _ _ refl (on (i + 1) 41 _ _ refl (scored_finished (i + 1 + 1) _))
    score_finished i p at name n (whole m x) = on i 41 _ _ refl (scored_finished (i + 1) _)
    score_finished i p at name n (pointed m x) = on i 48 _ _ refl (on (i + 1) 41 _ _ refl (scored_finished (i + 1 + 1) _))
    score_finished i p at name n (broken m x d) = on i 41 _ _ refl (scored_finished (i + 1) _)

  inside_finished : (i : ℕ) (c : Inner P) → Good c → Finished note i (inside s from h c)
  unfolding inner_step
  inside_finished i (begin c) g = on i 65 _ _ refl (plain_finished c g (i + 1) (note i) (65 ∷ []))
  inside_finished i (plain c at t) g = plain_finished c g i at t
  inside_finished i (keyed c at k) g = on i 43 _ _ refl (number_finished c g (i + 1) at k (note i) (signed false))
  inside_finished i (in_number c at k n d) g = number_finished c g i at k n d
  inside_finished i (in_code c at k t) g = code_finished c g.0 i at k t g.1
  inside_finished i (in_text c at k t cs) g = text_finished c g.0 i at k t cs g.1
  inside_finished i (hashed c p) g = on i 65 _ _ refl (label_finished c g (i + 1) p (note i) (65 ∷ []))
  inside_finished i (in_label c p at name) g = label_finished c g i p at name
  inside_finished i (scoring c p at name) g = on i 48 _ _ refl (score_finished c g (i + 1) p at name (note i) (whole false 0))
  inside_finished i (in_score c p at name n d) g = score_finished c g i p at name n d
  inside_finished i (scored c p) g = scored_finished c g i p

pub finished : {P : Type 0} (note : ℕ → P) (i : ℕ) (s : State P) → GoodState s → Alive s → Finished note i s
finished note i (dead p) g a = absurd a
finished note i (outside m h) g a = outside_finished note i m h
finished note i (inside s at h c) g a = inside_finished note s at h i c g
finished note i (placing h s) g a = places_finished note (near 3) (near_finished note 3) (each_near Front) h i s
