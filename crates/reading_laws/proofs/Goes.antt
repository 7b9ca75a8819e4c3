-- The reader inside brackets, as a relation: each way on from a state with one more byte, and what is known there. Every step is one of them
-- (goes), so a rule over the inside of a bracket has a clause for each, and opens no definition.
use Rattle.std.specs.Prelude.{ℕ, ◌≡◌, Bool, true, ◌&&◌, eqb}
use Rattle.std.proofs.Math.Path.{refl}
use Rattle.std.proofs.Math.Bool.{false, not}
use Rattle.std.proofs.Math.Option.{none, some}
use mathlib.Core.List.{List, [], ◌∷◌, ◌++◌}
use Rattle.scope.specs.declared.grammar.Key.{Key}
use Rattle.scope.specs.declared.grammar.Key.TheVariants.{NoKey}
use Rattle.scope.specs.Bytes.{is_digit, is_alnum, is_sign, bar, hash, colon, dash, open_round, shut_round, value}
use Rattle.scope.specs.Keys.{key_of, Form, mass_or_name, mass_only, digits, alnums, free, composed, form, hash_is_plain, accession_byte}
use Rattle.scope.specs.Line.{Number, mass, text, reference, Part}
use Rattle.scope.specs.Content.{Digits, signed, whole, digit_step, number_end, is_plain, text_step, Context, Inner, begin, plain, keyed, in_number, in_code, in_text, hashed, in_label, scoring, in_score, scored, Content, lost, closed, going, with, unlabelled, labelled, is_reference, part_end, value_end, text_end, behind_key, colon_after, name_behind, inner_step}
use Rattle.scope.specs.Lists.{none?}
use Rattle.basics.specs.Choice.{branch_on, on_given, given_on}

-- a mass may stand behind the key
abbrev pub takes_mass : Form → Bool
takes_mass mass_or_name = true
takes_mass mass_only = true
takes_mass digits = false
takes_mass alnums = false
takes_mass free = false
takes_mass composed = false

-- nothing but a text may stand behind the key
abbrev pub takes_text : Form → Bool
takes_text mass_or_name = false
takes_text mass_only = false
takes_text digits = false
takes_text alnums = false
takes_text free = true
takes_text composed = true

-- a state's part is whole but for a label: its text or its mass may be over
pub data Valued {P : Type 0} : Inner P → Context P → Part P → Type 0 where
  of_plain : {c : Context P} {at : P} {t : List ℕ} → Valued (plain c at t) c (unlabelled at NoKey (text t))
  of_number : {c : Context P} {at : P} {k : Key} {n : P} {d : Digits} {x : Number P} → number_end n d ≡ some x → Valued (in_number c at k n d) c (unlabelled at k (mass x))
  of_code : {c : Context P} {at : P} {k : Key} {x : ℕ} {t : List ℕ} → Valued (in_code c at k (x ∷ t)) c (unlabelled at k (text (x ∷ t)))
  of_text : {c : Context P} {at : P} {k : Key} {x : ℕ} {t : List ℕ} → Valued (in_text c at k (x ∷ t) []) c (unlabelled at k (text (x ∷ t)))

-- a state's part may be over
pub data Over {P : Type 0} : Inner P → Context P → Part P → Type 0 where
  of_value : {s : Inner P} {c : Context P} {p : Part P} → Valued s c p → Over s c p
  of_label : {c : Context P} {p : Part P} {at : P} {name : List ℕ} → Over (in_label c p at name) c (labelled p at name none)
  of_score : {c : Context P} {p : Part P} → Over (scored c p) c p

-- one byte b more, at the place i, and the same part goes on: each of these leaves the context as it is
pub data On {P : Type 0} (i : P) (b : ℕ) : Inner P → Inner P → Type 0 where
  -- a part begins
  mass_begins : {c : Context P} → is_sign b ≡ true → On i b (begin c) (in_number c i NoKey i (signed (eqb b dash)))
  plain_begins : {c : Context P} → is_plain b ≡ true → On i b (begin c) (plain c i (b ∷ []))
  text_begins : {c : Context P} {cs : List ℕ} → text_step false [] b ≡ some cs → On i b (begin c) (in_text c i NoKey (b ∷ []) cs)
  refers : {c : Context P} → (eqb b hash && c.refers && none? c.parts) ≡ true → On i b (begin c) (hashed c (unlabelled i NoKey reference))
  -- plain bytes go on, as such, or as a text, or were a key
  plain_on : {c : Context P} {at : P} {t : List ℕ} → is_plain b ≡ true → On i b (plain c at t) (plain c at (t ++ (b ∷ [])))
  plain_text_lem : {c : Context P} {at : P} {t cs : List ℕ} → text_step false [] b ≡ some cs → On i b (plain c at t) (in_text c at NoKey (t ++ (b ∷ [])) cs)
  no_key : {c : Context P} {at : P} {t : List ℕ} → eqb b colon ≡ true → key_of t ≡ none → On i b (plain c at t) (in_text c at NoKey (t ++ (colon ∷ [])) [])
  key_name : {c : Context P} {at : P} {t : List ℕ} {k : Key} → eqb b colon ≡ true → key_of t ≡ some k → takes_mass (form k) ≡ true → On i b (plain c at t) (keyed c at k)
  key_code_lem : {c : Context P} {at : P} {t : List ℕ} {k : Key} → eqb b colon ≡ true → key_of t ≡ some k → accession_byte (form k) 48 ≡ true → On i b (plain c at t) (in_code c at k [])
  key_text : {c : Context P} {at : P} {t : List ℕ} {k : Key} → eqb b colon ≡ true → key_of t ≡ some k → takes_text (form k) ≡ true → On i b (plain c at t) (in_text c at k [] [])
  -- behind a key
  keyed_mass : {c : Context P} {at : P} {k : Key} → is_sign b ≡ true → On i b (keyed c at k) (in_number c at k i (signed (eqb b dash)))
  keyed_text : {c : Context P} {at : P} {k : Key} {cs : List ℕ} → form k ≡ mass_or_name → text_step false [] b ≡ some cs → On i b (keyed c at k) (in_text c at k (b ∷ []) cs)
  -- a value goes on
  mass_on : {c : Context P} {at : P} {k : Key} {n : P} {d e : Digits} → digit_step d b ≡ some e → On i b (in_number c at k n d) (in_number c at k n e)
  code_on : {c : Context P} {at : P} {k : Key} {t : List ℕ} → accession_byte (form k) b ≡ true → On i b (in_code c at k t) (in_code c at k (t ++ (b ∷ [])))
  text_on : {c : Context P} {at : P} {k : Key} {t cs ds : List ℕ} → text_step (hash_is_plain (form k)) cs b ≡ some ds → On i b (in_text c at k t cs) (in_text c at k (t ++ (b ∷ [])) ds)
  -- a label, and its score
  hash_on : {s : Inner P} {c : Context P} {p : Part P} → Valued s c p → (eqb b hash && c.labels) ≡ true → On i b s (hashed c p)
  label_begins : {c : Context P} {p : Part P} → is_alnum b ≡ true → On i b (hashed c p) (in_label c p i (b ∷ []))
  label_on : {c : Context P} {p : Part P} {at : P} {name : List ℕ} → is_alnum b ≡ true → On i b (in_label c p at name) (in_label c p at (name ++ (b ∷ [])))
  score_opens : {c : Context P} {p : Part P} {at : P} {name : List ℕ} → eqb b open_round ≡ true → On i b (in_label c p at name) (scoring c p at name)
  score_sign : {c : Context P} {p : Part P} {at : P} {name : List ℕ} → is_sign b ≡ true → On i b (scoring c p at name) (in_score c p at name i (signed (eqb b dash)))
  score_digit : {c : Context P} {p : Part P} {at : P} {name : List ℕ} → is_digit b ≡ true → On i b (scoring c p at name) (in_score c p at name i (whole false (value b)))
  score_on : {c : Context P} {p : Part P} {at : P} {name : List ℕ} {n : P} {d e : Digits} → digit_step d b ≡ some e → On i b (in_score c p at name n d) (in_score c p at name n e)
  score_over : {c : Context P} {p : Part P} {at : P} {name : List ℕ} {n : P} {d : Digits} {x : Number P} → eqb b shut_round ≡ true → number_end n d ≡ some x → On i b (in_score c p at name n d) (scored c (labelled p at name (some x)))

-- one byte b more: no bracket goes on so; the same part goes on; another follows; or the bracket is closed
pub data Goes {P : Type 0} (i : P) (b : ℕ) : Inner P → Content P → Type 0 where
  stops : {s : Inner P} → Goes i b s lost
  goes_on_lem : {s t : Inner P} → On i b s t → Goes i b s (going t)
  part_over : {s : Inner P} {c : Context P} {p : Part P} → Over s c p → (eqb b bar && not (is_reference p.value)) ≡ true → Goes i b s (going (begin (with c p)))
  shuts : {s : Inner P} {c : Context P} {p : Part P} → Over s c p → eqb b c.shut ≡ true → Goes i b s (closed (c.parts ++ (p ∷ [])))

module _ {P : Type 0} (i : P) (b : ℕ) where
  over : {s : Inner P} {c : Context P} {p : Part P} → Over s c p → Goes i b s (part_end c p b)
  unfolding part_end
  over {s} {c} {p} o =
      branch_on (Goes i b s) (eqb b c.shut) (shuts o)
      (λ e. branch_on (Goes i b s) (eqb b bar && not (is_reference p.value)) (part_over o) (λ f. stops))

  valued : {s : Inner P} {c : Context P} {p : Part P} → Valued s c p → Goes i b s (value_end c p b)
  unfolding value_end
  valued {s} {c} {p} v = branch_on (Goes i b s) (eqb b hash && c.labels) (λ e. goes_on_lem (hash_on v e)) (λ e. over (of_value v))

  in_code_lem : (c : Context P) (at : P) (k : Key) (t : List ℕ) → Goes i b (in_code c at k t) (text_end c at k t [] b)
  unfolding text_end
  in_code_lem c at k [] = stops
  in_code_lem c at k (x ∷ t) = valued of_code

  in_text_lem : (c : Context P) (at : P) (k : Key) (t cs : List ℕ) → Goes i b (in_text c at k t cs) (text_end c at k t cs b)
  unfolding text_end
  in_text_lem c at k [] cs = stops
  in_text_lem c at k (x ∷ t) [] = valued of_text
  in_text_lem c at k (x ∷ t) (o ∷ cs) = stops

  at_colon : (c : Context P) (at : P) (t : List ℕ) → eqb b colon ≡ true → Goes i b (plain c at t) (going (colon_after c at t))
  unfolding colon_after
  at_colon c at t e = given_on (λ x. Goes i b (plain c at t) (going x)) (key_of t) (λ k f. behind k (form k) refl f) (λ f. goes_on_lem (no_key e f))
    where
      behind : (k : Key) (q : Form) → form k ≡ q → key_of t ≡ some k → Goes i b (plain c at t) (going (behind_key c at k q))
      behind k mass_or_name g f = goes_on_lem (key_name e f (rw g refl))
      behind k mass_only g f = goes_on_lem (key_name e f (rw g refl))
      behind k digits g f = goes_on_lem (key_code_lem e f (rw g refl))
      behind k alnums g f = goes_on_lem (key_code_lem e f (rw g refl))
      behind k free g f = goes_on_lem (key_text e f (rw g refl))
      behind k composed g f = goes_on_lem (key_text e f (rw g refl))

  name : (c : Context P) (at : P) (k : Key) (q : Form) → form k ≡ q → Goes i b (keyed c at k) (name_behind c at k q b)
  name c at k mass_or_name g = on_given (Goes i b (keyed c at k)) (text_step false [] b) (λ cs e. goes_on_lem (keyed_text g e)) stops
  name c at k mass_only g = stops
  name c at k digits g = stops
  name c at k alnums g = stops
  name c at k free g = stops
  name c at k composed g = stops

  pub goes : (s : Inner P) → Goes i b s (inner_step i s b)
  unfolding inner_step
  goes (begin c) =
      branch_on (Goes i b (begin c)) (is_sign b) (λ e. goes_on_lem (mass_begins e))
      (λ e. branch_on (Goes i b (begin c)) (is_plain b) (λ e. goes_on_lem (plain_begins e))
      (λ e. on_given (Goes i b (begin c)) (text_step false [] b) (λ cs e. goes_on_lem (text_begins e))
      (branch_on (Goes i b (begin c)) (eqb b hash && c.refers && none? c.parts) (λ e. goes_on_lem (refers e)) (λ e. stops))))
  goes (plain c at t) =
      branch_on (Goes i b (plain c at t)) (is_plain b) (λ e. goes_on_lem (plain_on e))
      (λ e. branch_on (Goes i b (plain c at t)) (eqb b colon) (at_colon c at t)
      (λ e. on_given (Goes i b (plain c at t)) (text_step false [] b) (λ cs e. goes_on_lem (plain_text_lem e)) (valued of_plain)))
  goes (keyed c at k) = branch_on (Goes i b (keyed c at k)) (is_sign b) (λ e. goes_on_lem (keyed_mass e)) (λ e. name c at k (form k) refl)
  goes (in_number c at k n d) =
      on_given (Goes i b (in_number c at k n d)) (digit_step d b) (λ d' e. goes_on_lem (mass_on e))
      (on_given (Goes i b (in_number c at k n d)) (number_end n d) (λ x e. valued (of_number e)) stops)
  goes (in_code c at k t) = branch_on (Goes i b (in_code c at k t)) (accession_byte (form k) b) (λ e. goes_on_lem (code_on e)) (λ e. in_code_lem c at k t)
  goes (in_text c at k t cs) = on_given (Goes i b (in_text c at k t cs)) (text_step (hash_is_plain (form k)) cs b) (λ ds e. goes_on_lem (text_on e)) (in_text_lem c at k t cs)
  goes (hashed c p) = branch_on (Goes i b (hashed c p)) (is_alnum b) (λ e. goes_on_lem (label_begins e)) (λ e. stops)
  goes (in_label c p at n) =
      branch_on (Goes i b (in_label c p at n)) (is_alnum b) (λ e. goes_on_lem (label_on e))
      (λ e. branch_on (Goes i b (in_label c p at n)) (eqb b open_round) (λ e. goes_on_lem (score_opens e)) (λ e. over of_label))
  goes (scoring c p at n) =
      branch_on (Goes i b (scoring c p at n)) (is_sign b) (λ e. goes_on_lem (score_sign e))
      (λ f. branch_on (Goes i b (scoring c p at n)) (is_digit b) (λ e. goes_on_lem (score_digit e)) (λ e. stops))
  goes (in_score c p at m n d) =
      on_given (Goes i b (in_score c p at m n d)) (digit_step d b) (λ d' e. goes_on_lem (score_on e))
      (branch_on (Goes i b (in_score c p at m n d)) (eqb b shut_round)
      (λ e. on_given (Goes i b (in_score c p at m n d)) (number_end n d) (λ x f. goes_on_lem (score_over e f)) stops) (λ e. stops))
  goes (scored c p) = over of_score
