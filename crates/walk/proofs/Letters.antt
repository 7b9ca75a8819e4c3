-- A letter behind a residue is one more of the same element or group, and leads to the same mode: so a residue and the letters behind it are read at once.
use mathlib.Core.Path.{◌≡◌, refl, sym, ap, ap₂, ◌∙◌, subst}
use mathlib.Core.Bool.{Bool, true, false, cond}
use mathlib.Core.List.{List, [], ◌∷◌, ◌++◌, map, append_assoc, append-nil}
use Prim.Native.Nat.{ℕ, zero, suc, ◌+◌, ◌-◌, ◌≤◌, ◌<◌}
use native.Mathlib.Omega.{arith}
use native.Mathlib.Numerals.{add-one}
use lib.ListN.{length, take, drop, get_or, replicate, length-append, length-drop}
use lib.Seq.{drop-cons, drop-drop, length-take-le}
use Rattle.basics.specs.Choice.{branch, took}
use Rattle.basics.specs.Each.{Each}
use Rattle.scope.specs.declared.grammar.Section.{Section}
use Rattle.scope.specs.declared.grammar.Section.TheVariants.{Plain, RangeFirst, RangeNext, UnsureFirst, UnsureNext}
use Rattle.scope.specs.declared.grammar.Mode.{Mode}
use Rattle.scope.specs.declared.grammar.Mode.TheVariants.{Front, Angle, Tagged, Listed, Runs, Undecided, Counted, Referred, Caret, Counting, Labiles, NTerms, Start, Single, Opened, UnsureOpened, InRange, InUnsure, RangeEnd, Ranged, UnsureEnd, CStart, CTerms}
use Rattle.scope.specs.declared.grammar.Act.{Act}
use Rattle.scope.specs.declared.grammar.Act.TheVariants.{Stop, Go, Residue as a_residue, Begin, Digit, RunEnds, TermEnds, Places}
use Rattle.scope.specs.Bytes.{is_letter, upper}
use Rattle.scope.specs.Line.{Residue}
use Rattle.scope.specs.Lists.{part, tabled}
use Rattle.scope.specs.Layout.{section_code}
use Rattle.scope.specs.Reading.{Held, State, act, in_group, first_of, with_residue, outside, perform, step, run, ended}
use Rattle.classes.specs.Runs.{span}
use Rattle.classes.proofs.Runs.{span_le}
use Rattle.order.specs.Letters.{single_letter}
use Rattle.reading_laws.proofs.Acts.{Way, is_of, elements, furthers, ways, pick, act_ways}
use Rattle.reading_laws.proofs.Run.{rest, rest_step}
use Rattle.walk.specs.Steps.{behind, group_of, run_at, sections_of}

-- ---- a letter behind a residue
-- a letter in mode m is a residue of section s, and leads to m again
abbrev pub Again : Section → Mode → Type 0
Again s m = (c : ℕ) → is_letter c ≡ true → act m c ≡ a_residue s m

abbrev Follows : Act → Type 0
Follows Stop = Unit {0}
Follows (Go m) = Unit {0}
Follows (a_residue s m) = Again (behind s) m
Follows (Begin s) = Unit {0}
Follows Digit = Unit {0}
Follows RunEnds = Unit {0}
Follows TermEnds = Unit {0}
Follows Places = Unit {0}

abbrev AllFollow : List Way → Type 0
AllFollow ws = Each (λ w. Follows w.does) ws

range_letter : Again RangeNext InRange
unfolding act in_group
range_letter c e = sym (took (is_letter c) _ _ e)

unsure_letter : Again UnsureNext InUnsure
unfolding act in_group
unsure_letter c e = sym (took (is_letter c) _ _ e)

elements_follow : AllFollow elements
elements_follow = (single_letter, (tt, tt))

furthers_follow : AllFollow furthers
furthers_follow = (tt, elements_follow)

ways_follow : (m : Mode) → AllFollow (ways m)
ways_follow Front = (tt, (tt, (tt, elements_follow)))
ways_follow Angle = (tt, tt)
ways_follow Tagged = (tt, tt)
ways_follow Listed = (tt, tt)
ways_follow Runs = (tt, (tt, elements_follow))
ways_follow Undecided = (tt, (tt, (tt, (tt, tt))))
ways_follow Counted = (tt, (tt, (tt, tt)))
ways_follow Referred = (tt, (tt, tt))
ways_follow Caret = (tt, tt)
ways_follow Counting = (tt, (tt, (tt, tt)))
ways_follow Labiles = (tt, (tt, elements_follow))
ways_follow NTerms = (tt, (tt, tt))
ways_follow Start = elements_follow
ways_follow Single = (tt, furthers_follow)
ways_follow Opened = (tt, (range_letter, tt))
ways_follow UnsureOpened = (unsure_letter, tt)
ways_follow InRange = (range_letter, (tt, (tt, tt)))
ways_follow InUnsure = (unsure_letter, (tt, (tt, tt)))
ways_follow RangeEnd = (tt, tt)
ways_follow Ranged = (tt, furthers_follow)
ways_follow UnsureEnd = furthers_follow
ways_follow CStart = (tt, tt)
ways_follow CTerms = (tt, tt)

pick_follows : (b : ℕ) (ws : List Way) → AllFollow ws → Follows (pick ws b)
unfolding pick
pick_follows b [] f = tt
pick_follows b (w ∷ ws) f = branch Follows (is_of w.sort b) {x = w.does} {y = pick ws b} f.0 (pick_follows b ws f.1)

pub letter_again : (m : Mode) (b : ℕ) (s : Section) (n : Mode) → act m b ≡ a_residue s n → Again (behind s) n
letter_again m b s n e = subst Follows (sym (act_ways m b) ∙ e) (pick_follows b (ways m) (ways_follow m))

-- ---- residues one behind another
abbrev pub residue_at : Section → ℕ → ℕ → Residue ℕ
residue_at s i b = record { letter = upper b; section = s; at = i }

unfoldable pub residues_from : Section → ℕ → List ℕ → List (Residue ℕ)
residues_from s i [] = []
residues_from s i (b ∷ l) = residue_at s i b ∷ residues_from s (i + 1) l

from_length : (s : Section) (i : ℕ) (l : List ℕ) → length (residues_from s i l) ≡ length l
unfolding residues_from
from_length s i [] = refl
from_length s i (b ∷ l) = ap suc (from_length s (i + 1) l)

from_letters : (s : Section) (i : ℕ) (l : List ℕ) → map (λ r. r.letter) (residues_from s i l) ≡ map upper l
unfolding residues_from
from_letters s i [] = refl
from_letters s i (b ∷ l) = ap (λ t. upper b ∷ t) (from_letters s (i + 1) l)

from_sections_lem : (s : Section) (i : ℕ) (l : List ℕ) → map (λ r. section_code r.section) (residues_from s i l) ≡ replicate (length l) (section_code s)
unfolding residues_from
from_sections_lem s i [] = refl
from_sections_lem s i (b ∷ l) = ap (λ t. section_code s ∷ t) (from_sections_lem s (i + 1) l)

from_places : (s : Section) (i : ℕ) (l : List ℕ) → map (λ r. r.at) (residues_from s i l) ≡ tabled (λ j. j) i (length l)
unfolding residues_from tabled
from_places s i [] = refl
from_places s i (b ∷ l) = ap (λ t. i ∷ t) (from_places s (i + 1) l)

-- the group's first position behind m residues more, n being read
unfoldable firsts_of : Section → ℕ → ℕ → ℕ → ℕ
firsts_of s n zero old = old
firsts_of s n (suc m) old = firsts_of s (n + 1) m (first_of s (n + 1) old)

plain_firsts : (n m : ℕ) → firsts_of Plain n m n ≡ n + m
unfolding firsts_of
plain_firsts n zero = let e : n ≡ n + 0 = omega arith in e
plain_firsts n (suc m) = plain_firsts (n + 1) m ∙ (let e : n + 1 + m ≡ n + suc m = omega arith in e)

range_firsts : (n m old : ℕ) → firsts_of RangeNext n m old ≡ old
unfolding firsts_of
range_firsts n zero old = refl
range_firsts n (suc m) old = range_firsts (n + 1) m old

unsure_firsts : (n m old : ℕ) → firsts_of UnsureNext n m old ≡ old
unfolding firsts_of
unsure_firsts n zero old = refl
unsure_firsts n (suc m) old = unsure_firsts (n + 1) m old

-- with a residue before them
firsts_group : (s : Section) (n m old : ℕ) → firsts_of (behind s) (n + 1) m (first_of s (n + 1) old) ≡ group_of s (n + 1) (n + suc m) old
firsts_group Plain n m old = plain_firsts (n + 1) m ∙ (let e : n + 1 + m ≡ n + suc m = omega arith in e)
firsts_group RangeFirst n m old = range_firsts (n + 1) m (n + 1)
firsts_group RangeNext n m old = range_firsts (n + 1) m old
firsts_group UnsureFirst n m old = unsure_firsts (n + 1) m (n + 1)
firsts_group UnsureNext n m old = unsure_firsts (n + 1) m old

-- what is held with residues more
abbrev pub held_with : Held ℕ → List (Residue ℕ) → ℕ → Held ℕ
held_with h rs first = record { residues = h.residues ++ rs; brackets = h.brackets; run = h.run; first = first }

abbrev held_more : Section → ℕ → List ℕ → Held ℕ → Held ℕ
held_more s i l h = held_with h (residues_from s i l) (firsts_of s (length h.residues) (length l) h.first)

more_none : (s : Section) (i : ℕ) (h : Held ℕ) → h ≡ held_more s i [] h
unfolding residues_from firsts_of
more_none s i h = ap (λ t. record { residues = t; brackets = h.brackets; run = h.run; first = h.first }) (sym (append-nil h.residues))

more_one : (s t : Section) (i b : ℕ) (l : List ℕ) (h : Held ℕ)
    → held_more t (i + 1) l (with_residue i b s h)
    ≡ held_with h (residue_at s i b ∷ residues_from t (i + 1) l) (firsts_of t (length h.residues + 1) (length l) (first_of s (length h.residues + 1) h.first))
more_one s t i b l h =
    let x = residue_at s i b in
    ap₂ (λ a n. record { residues = a; brackets = h.brackets; run = h.run; first = firsts_of t n (length l) (first_of s (length h.residues + 1) h.first) })
    (append_assoc h.residues (x ∷ []) (residues_from t (i + 1) l)) (length-append h.residues (x ∷ []))

-- ---- read
residue_step : (i b : ℕ) (m : Mode) (h : Held ℕ) (s : Section) (n : Mode) → act m b ≡ a_residue s n → step i (outside m h) b ≡ outside n (with_residue i b s h)
unfolding step perform
residue_step i b m h s n e = ap (perform i b h) e

module _ (n : Mode) (s : Section) (again : Again s n) where
  abbrev reached : ℕ → Held ℕ → List ℕ → State ℕ
  reached i h l = run (λ j. j) i (outside n h) l

  -- the first k of the bytes are letters
  abbrev letters_read : ℕ → Held ℕ → List ℕ → ℕ → State ℕ
  letters_read i h l k = reached (i + k) (held_more s i (take k l) h) (drop k l)

  letters_on : (i : ℕ) (h : Held ℕ) (l : List ℕ) → reached i h l ≡ letters_read i h l (span is_letter l)
  unfolding run span residues_from firsts_of
  letters_on i h [] = ap (outside n) (more_none s i h)
  letters_on i h (b ∷ l) = go (is_letter b) refl (letters_on (i + 1) (with_residue i b s h) l)
    where
      go : (t : Bool) → is_letter b ≡ t → reached (i + 1) (with_residue i b s h) l ≡ letters_read (i + 1) (with_residue i b s h) l (span is_letter l)
          → reached i h (b ∷ l) ≡ letters_read i h (b ∷ l) (cond t (suc (span is_letter l)) 0)
      go true e ih =
          let k : i + 1 + span is_letter l ≡ i + suc (span is_letter l) = omega arith in
          ap (λ x. run (λ j. j) (i + 1) x l) (residue_step i b n h s n (again b e)) ∙ ih
          ∙ ap₂ (λ a x. reached a x (drop (span is_letter l) l)) k (more_one s s i b (take (span is_letter l) l) h)
      go false e ih =
          let k : i ≡ i + 0 = omega arith in
          ap₂ (λ a x. reached a x (b ∷ l)) k (more_none s i h)

-- the residue at a place, and those behind it
module _ (line : List ℕ) (at : ℕ) where
  abbrev pub letters_behind : List ℕ
  letters_behind = take (span is_letter (drop (at + 1) line)) (drop (at + 1) line)

  abbrev pub run_of : Section → List (Residue ℕ)
  run_of s = residue_at s at (get_or line at 0) ∷ residues_from (behind s) (at + 1) letters_behind

  behind_length : length letters_behind ≡ span is_letter (drop (at + 1) line)
  behind_length = length-take-le (span is_letter (drop (at + 1) line)) (drop (at + 1) line) (span_le is_letter (drop (at + 1) line))

  pub run_length : (s : Section) → length (run_of s) ≡ run_at line at
  run_length s = ap suc (from_length (behind s) (at + 1) letters_behind ∙ behind_length)

  pub run_sections : (s : Section) → map (λ r. section_code r.section) (run_of s) ≡ sections_of s (run_at line at)
  run_sections s =
      let e : span is_letter (drop (at + 1) line) ≡ run_at line at - 1 = omega arith in
      ap (λ t. section_code s ∷ t) (from_sections_lem (behind s) (at + 1) letters_behind ∙ ap (λ n. replicate n (section_code (behind s))) (behind_length ∙ e))

  pub run_places : (s : Section) → map (λ r. r.at) (run_of s) ≡ tabled (λ j. j) at (run_at line at)
  unfolding tabled
  run_places s = ap (λ t. at ∷ t) (from_places (behind s) (at + 1) letters_behind ∙ ap (tabled (λ j. j) (at + 1)) behind_length)

  pub run_within : at < length line → at + run_at line at ≤ length line
  run_within h = let a = span_le is_letter (drop (at + 1) line) in omega (arith, length-drop (at + 1) line)

  bytes_here : at < length line → drop at line ≡ get_or line at 0 ∷ drop (at + 1) line
  bytes_here h = drop-cons line at 0 h ∙ ap (λ n. get_or line at 0 ∷ drop n line) (sym (add-one at))

  pub run_letters : (s : Section) → at < length line → map (λ r. r.letter) (run_of s) ≡ map upper (part at (run_at line at) line)
  run_letters s h =
      ap (λ t. upper (get_or line at 0) ∷ t) (from_letters (behind s) (at + 1) letters_behind)
      ∙ ap (λ l. map upper (take (run_at line at) l)) (sym (bytes_here h))

  pub run_read : (m : Mode) (h : Held ℕ) (s : Section) (n : Mode) → at < length line → act m (get_or line at 0) ≡ a_residue s n
      → rest line at (outside m h)
      ≡ rest line (at + run_at line at) (outside n (held_with h (run_of s) (group_of s (length h.residues + 1) (length h.residues + run_at line at) h.first)))
  unfolding rest
  run_read m h s n here e =
      let b = get_or line at 0 in
      let l = drop (at + 1) line in
      let q = span is_letter l in
      let k : at + 1 + q ≡ at + run_at line at = omega arith in
      let N = length h.residues in
      rest_step line at (outside m h) here
      ∙ ap (λ x. ended (length line) (run (λ j. j) (at + 1) x l)) (residue_step at b m h s n e)
      ∙ ap (ended (length line))
      (letters_on n (behind s) (letter_again m b s n e) (at + 1) (with_residue at b s h) l
      ∙ ap₂ (λ i x. run (λ j. j) i (outside n x) (drop q l)) k
      (more_one s (behind s) at b letters_behind h
      ∙ ap (λ f. held_with h (run_of s) f)
      (ap (λ j. firsts_of (behind s) (N + 1) j (first_of s (N + 1) h.first)) behind_length ∙ firsts_group s N q h.first))
      ∙ ap (run (λ j. j) (at + run_at line at) (outside n (held_with h (run_of s) (group_of s (N + 1) (N + run_at line at) h.first))))
      (drop-drop q (at + 1) line ∙ ap (λ i. drop i line) k))
