-- A line of the order has no byte outside 32 to 126: with such a byte no line goes on.
use Rattle.std.specs.Prelude.{ℕ, ◌+◌, ◌-◌, ◌≤◌, ◌≡◌, Bool, true, false, cond, ◌&&◌, ◌||◌, leb, length}
use Rattle.std.proofs.Common.{arith, sym, ◌∙◌, subst, le-leb, leb-true, eqb-true}
use Rattle.std.proofs.Math.Path.{refl, ap}
use Rattle.std.proofs.Math.Bool.{not}
use Rattle.std.proofs.lemmas.Bool.{false≢true}
use Rattle.std.proofs.Math.Option.{Option, none, some}
use mathlib.Core.List.{List, [], ◌∷◌, ◌++◌}
use Rattle.std.proofs.Math.Dec.{eqb}
use Rattle.scope.specs.declared.grammar.Mode.{Mode}
use Rattle.scope.specs.declared.grammar.Act.TheVariants.{Stop}
use Rattle.scope.specs.Bytes.{upper, is_printable, is_letter, is_lower, is_digit, is_alnum, is_sign, is_opening, is_shutting, bar, hash, colon, dot}
use Rattle.scope.specs.Keys.{Form, mass_or_name, mass_only, digits, alnums, free, composed, form, hash_is_plain, accession_byte}
use Rattle.scope.specs.Line.{Line}
use Rattle.scope.specs.Content.{Digits, signed, whole, pointed, broken, digit_step, is_plain, text_step, Inner, Content, lost}
use Rattle.scope.specs.Reading.{act, Held, State, dead, outside, inside, placing, perform, resume, step, run, start, holds, ended, reading}
use Rattle.scope.specs.Refusals.{due_at, unprintable, refusal3}
use Rattle.reading_laws.proofs.Acts.{Sort, letter, digit, only, any, is_of, act_none}
use Rattle.basics.specs.Tests.{both_of, neither, falsely}
use Rattle.reading_laws.proofs.Goes.{On, mass_begins, plain_begins, text_begins, refers, plain_on, plain_text_lem, no_key, key_name, key_code_lem, key_text, keyed_mass, keyed_text, mass_on, code_on, text_on, hash_on, label_begins, label_on, score_opens, score_sign, score_digit, score_on, score_over, Goes, stops, goes_on_lem, part_over, shuts, goes}
use Rattle.scope.specs.Places.{Placing}
use Rattle.reading_laws.proofs.Listed.{PlaceOn, place_begins, place_over, word_begins, word_on, PlacesGo, places_on, places_over, places_stop, places_go}
use Rattle.reading_laws.proofs.Run.{run_dead}
use Rattle.reading_laws.proofs.Reached.{Closer, square, curly, Closers, Good, GoodPlacing, GoodState, over_good, step_good}
use Rattle.reading_laws.proofs.Finished.{Alive}

-- ---- tests
first_false : (a b : Bool) → a ≡ false → (a && b) ≡ false
first_false true b p = absurd (false≢true (sym p))
first_false false b p = refl

second_false : (a b : Bool) → b ≡ false → (a && b) ≡ false
second_false true b p = p
second_false false b p = refl

skip : {A : Type 0} (x : A) (t : Bool) {y z : A} → t ≡ false → y ≡ z → cond t x y ≡ z
skip x true e q = absurd (false≢true (sym e))
skip x false e q = q

never : {t : Bool} → t ≡ false → t ≡ true → ⊥
never p q = false≢true (sym p ∙ q)

nothing : {A : Type 0} {o : Option A} {x : A} → o ≡ none → o ≡ some x → ⊥
nothing p q = let z : ◌≡◌ {A = ℕ} 0 1 = cc in omega arith

-- ---- a byte outside 32 to 126
module _ (b : ℕ) (u : is_printable b ≡ false) where
  no_range : (m n : ℕ) → 32 ≤ m → n ≤ 126 → (leb m b && leb b n) ≡ false
  no_range m n p q =
      falsely (leb m b && leb b n)
      (λ e. let f = both_of (leb m b) (leb b n) e in never u (rw (le-leb 32 b (omega (arith, leb-true m b f.0)), le-leb b 126 (omega (arith, leb-true b n f.1))) refl))

  is_not : (c : ℕ) → is_printable c ≡ true → eqb b c ≡ false
  is_not c p = falsely (eqb b c) (λ e. never u (subst (λ x. is_printable x ≡ true) (sym (eqb-true b c e)) p))

  no_letter : is_letter b ≡ false
  no_letter = neither _ _ (no_range 65 90 (omega arith) (omega arith)) (no_range 97 122 (omega arith) (omega arith))

  no_digit : is_digit b ≡ false
  no_digit = no_range 48 57 (omega arith) (omega arith)

  no_alnum : is_alnum b ≡ false
  no_alnum = neither _ _ no_letter no_digit

  no_sign : is_sign b ≡ false
  no_sign = neither _ _ (is_not 43 refl) (is_not 45 refl)

  no_opening : is_opening b ≡ false
  no_opening = neither _ _ (is_not 91 refl) (is_not 123 refl)

  no_plain : is_plain b ≡ false
  no_plain = first_false _ _ (first_false _ _ (first_false _ _ (first_false _ _ (first_false (is_printable b) _ u))))

  no_closer : {c : ℕ} → Closer c → eqb b c ≡ false
  no_closer square = is_not 93 refl
  no_closer curly = is_not 125 refl

  -- ---- outside brackets: each way on is by a sort of printable bytes
  abbrev printable_sort : Sort → Bool
  printable_sort letter = true
  printable_sort digit = true
  printable_sort (only c) = is_printable c
  printable_sort any = false

  not_of : (q : Sort) → printable_sort q ≡ true → is_of q b ≡ false
  not_of letter e = no_letter
  not_of digit e = no_digit
  not_of (only c) e = is_not c e
  not_of any e = absurd (false≢true e)

  act_stops : (m : Mode) → act m b ≡ Stop
  act_stops = act_none printable_sort refl b not_of

  -- ---- inside brackets
  text_stops : (h : Bool) (cs : List ℕ) → Closers cs → text_step h cs b ≡ none
  unfolding text_step
  text_stops h [] w =
      skip _ (is_plain b || eqb b colon || h && eqb b hash)
      (neither (is_plain b || eqb b colon) (h && eqb b hash) (neither (is_plain b) (eqb b colon) no_plain (is_not 58 refl)) (second_false h (eqb b hash) (is_not 35 refl)))
      (skip _ (is_opening b) no_opening refl)
  text_stops h (c ∷ cs) w =
      skip _ (is_opening b) no_opening
      (skip _ (eqb b c) (no_closer w.0)
      (skip _ (is_printable b && not (is_shutting b)) (first_false (is_printable b) (not (is_shutting b)) u) refl))

  digit_stops : (d : Digits) → digit_step d b ≡ none
  unfolding digit_step
  digit_stops (signed s) = skip _ (is_digit b) no_digit refl
  digit_stops (whole s m) = skip _ (is_digit b) no_digit (skip _ (eqb b dot) (is_not 46 refl) refl)
  digit_stops (pointed s m) = skip _ (is_digit b) no_digit refl
  digit_stops (broken s m d) = skip _ (is_digit b) no_digit refl

  accession_stops : (q : Form) → accession_byte q b ≡ false
  accession_stops mass_or_name = refl
  accession_stops mass_only = refl
  accession_stops digits = no_digit
  accession_stops alnums = no_alnum
  accession_stops free = refl
  accession_stops composed = refl

  -- what is owed of a terminus is a letter, in either case
  no_owed : (x : ℕ) → is_printable (upper x) ≡ true → eqb (upper x) (upper b) ≡ false
  unfolding upper
  no_owed x p =
      falsely (eqb (upper x) (upper b))
      (λ e. never u (subst (λ z. is_printable z ≡ true) (eqb-true (upper x) (upper b) e ∙ skip (b - 32) (is_lower b) (no_range 97 122 (omega arith) (omega arith)) refl) p))

  module _ {P : Type 0} where
    place_never : {i : P} {s t : Placing P} → PlaceOn i b s t → GoodPlacing s → ⊥
    place_never (place_begins e) g = never no_letter e
    place_never (place_over e) g = never (is_not 44 refl) e
    place_never (word_begins e f) g = never (is_not 45 refl) e
    place_never (word_on {x = x} e) g = never (no_owed x g.0) e

    places_kill : {i : P} {h : Held P} {s : Placing P} {y : State P} → PlacesGo i b h s y → GoodPlacing s → y ≡ dead i
    places_kill (places_on o) g = absurd (place_never o g)
    places_kill (places_over e) g = absurd (never (is_not 62 refl) e)
    places_kill places_stop g = refl

    on_never : {i : P} {s t : Inner P} → On i b s t → Good s → ⊥
    on_never (mass_begins e) g = never no_sign e
    on_never (plain_begins e) g = never no_plain e
    on_never (text_begins e) g = nothing (text_stops false [] tt) e
    on_never (refers e) g = never (first_false _ _ (first_false (eqb b hash) _ (is_not 35 refl))) e
    on_never (plain_on e) g = never no_plain e
    on_never (plain_text_lem e) g = nothing (text_stops false [] tt) e
    on_never (no_key e f) g = never (is_not 58 refl) e
    on_never (key_name e f a) g = never (is_not 58 refl) e
    on_never (key_code_lem e f a) g = never (is_not 58 refl) e
    on_never (key_text e f a) g = never (is_not 58 refl) e
    on_never (keyed_mass e) g = never no_sign e
    on_never (keyed_text a e) g = nothing (text_stops false [] tt) e
    on_never (mass_on {d = d} e) g = nothing (digit_stops d) e
    on_never (code_on {k = k} e) g = never (accession_stops (form k)) e
    on_never (text_on {k = k} {cs = cs} e) g = nothing (text_stops (hash_is_plain (form k)) cs g.1) e
    on_never (hash_on v e) g = never (first_false (eqb b hash) _ (is_not 35 refl)) e
    on_never (label_begins e) g = never no_alnum e
    on_never (label_on e) g = never no_alnum e
    on_never (score_opens e) g = never (is_not 40 refl) e
    on_never (score_sign e) g = never no_sign e
    on_never (score_digit e) g = never no_digit e
    on_never (score_on {d = d} e) g = nothing (digit_stops d) e
    on_never (score_over e f) g = never (is_not 41 refl) e

    goes_stops : {i : P} {s : Inner P} {x : Content P} → Goes i b s x → Good s → x ≡ lost
    goes_stops stops g = refl
    goes_stops (goes_on_lem o) g = absurd (on_never o g)
    goes_stops (part_over o e) g = absurd (never (first_false (eqb b bar) _ (is_not 124 refl)) e)
    goes_stops (shuts o e) g = absurd (never (no_closer (over_good o g)) e)

    -- so it kills
    pub unprintable_kills : (i : P) (s : State P) → GoodState s → Alive s → step i s b ≡ dead i
    unfolding step perform resume
    unprintable_kills i (dead p) g a = absurd a
    unprintable_kills i (outside m h) g a = ap (perform i b h) (act_stops m)
    unprintable_kills i (inside s at h c) g a = ap (resume s at h i) (goes_stops (goes i b c) g)
    unprintable_kills i (placing h s) g a = places_kill (places_go i b h s) g

-- ---- lines
alive_before : (i : ℕ) (s : State ℕ) (l : List ℕ) → Alive (run (λ j. j) i s l) → Alive s
alive_before i (dead p) l a = subst Alive (run_dead (λ j. j) i p l) a
alive_before i (outside m h) l a = tt
alive_before i (inside s at h c) l a = tt
alive_before i (placing h s) l a = tt

alive_printable : (i : ℕ) (s : State ℕ) (l : List ℕ) → GoodState s → Alive (run (λ j. j) i s l) → unprintable i l ≡ []
unfolding run unprintable
alive_printable i s [] g a = refl
alive_printable i s (b ∷ l) g a =
    go (is_printable b) refl (alive_printable (i + 1) (step i s b) l (step_good i s b g) a)
  where
    go : (t : Bool) → is_printable b ≡ t → unprintable (i + 1) l ≡ [] → (due_at (not t) i ++ unprintable (i + 1) l) ≡ []
    go true e q = q
    go false e q =
        let k : step i s b ≡ dead i = unprintable_kills b e i s g (alive_before i s (b ∷ l) a) in
        absurd (subst (λ x. Alive x) (run_dead (λ j. j) (i + 1) i l) (subst (λ x. Alive (run (λ j. j) (i + 1) x l)) k a))

pub order_printable : (s : List ℕ) (t : Line ℕ) → reading s ≡ holds t → refusal3 s ≡ []
unfolding reading refusal3
order_printable s t e = alive_printable 0 start s tt (go (run (λ j. j) 0 start s) e)
  where
    go : (x : State ℕ) → ended (length s) x ≡ holds t → Alive x
    go (dead p) f = let z : ◌≡◌ {A = ℕ} 0 1 = cc in absurd (omega arith)
    go (outside m h) f = tt
    go (inside k at h c) f = tt
    go (placing h x) f = tt
