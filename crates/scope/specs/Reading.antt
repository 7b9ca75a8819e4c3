-- How it is computed: a line, read byte by byte, and what it holds or the place of refusal 4. By `lines` of crates/grammar_laws this is what the grammar
-- means, places included, and by `place_of_4` its place of 4 is document 01's.
use Rattle.std.specs.Prelude.{ℕ, ◌+◌, ◌*◌, Bool, true, false, cond, List, [], ◌∷◌, ◌++◌, map, eqb, length}
use Rattle.std.proofs.Math.Option.{none, some}
use Rattle.scope.specs.declared.grammar.Section.{Section}
use Rattle.scope.specs.declared.grammar.Section.TheVariants.{Plain, RangeFirst, RangeNext, UnsureFirst, UnsureNext}
use Rattle.scope.specs.declared.grammar.Kind.{Kind}
use Rattle.scope.specs.declared.grammar.Kind.TheVariants.{Unknown, Labile, NTerm, OnResidue, OnRange, CTerm, Declared}
use Rattle.scope.specs.declared.grammar.Mode.{Mode}
use Rattle.scope.specs.declared.grammar.Mode.TheVariants.{Front, Angle, Tagged, Listed, Runs, Undecided, Counted, Referred, Caret, Counting, Labiles, NTerms, Start, Single, Opened, UnsureOpened, InRange, InUnsure, RangeEnd, Ranged, UnsureEnd, CStart, CTerms}
use Rattle.scope.specs.declared.grammar.Slot.{Slot}
use Rattle.scope.specs.declared.grammar.Act.{Act}
use Rattle.scope.specs.declared.grammar.Act.TheVariants.{Stop, Go, Residue as a_residue, Begin, Digit, RunEnds, TermEnds, Places}
use Rattle.scope.specs.Kinds.{is_kind, is_unknown, is_on_range}
use Rattle.scope.specs.Bytes.{upper, is_letter, is_digit, open_square, shut_square, open_curly, shut_curly, open_round, shut_round, open_angle, shut_angle, at_sign, caret, question, dash, value}
use Rattle.scope.specs.Line.{Place, Part, Bracket, Residue, Line}
use Rattle.scope.specs.Lists.{given, on_last}
use Rattle.scope.specs.Places.{Placing, expected, place_step, places_end}
use Rattle.scope.specs.Content.{is_reference, Inner, begin, Content, lost, closed, going, inner_step}

-- ---- the order of a line: what each byte does outside brackets

abbrev pub square : Kind → Bool → Mode → Slot
square k refers m = record { kind = k; shut = shut_square; refers = refers; labels = true; after = m; referred = m }

-- "A reference may not stand in an unknown run, in `{}` or on a range": at the front it decides for the N-terminus
abbrev pub front : Slot
front = record { kind = Unknown; shut = shut_square; refers = true; labels = true; after = Undecided; referred = Referred }

-- "`{}` holds no label"
abbrev pub labile : Slot
labile = record { kind = Labile; shut = shut_curly; refers = false; labels = false; after = Labiles; referred = Labiles }

-- "Their brackets carry no label" (02, L2)
abbrev pub declared : Slot
declared = record { kind = Declared; shut = shut_square; refers = false; labels = false; after = Tagged; referred = Tagged }

-- where an element of the sequence may begin: a residue, a range, `(?..)`
unfoldable pub element : ℕ → Act
element b = cond (is_letter b) (a_residue Plain Single) (cond (eqb b open_round) (Go Opened) Stop)

-- the same, behind an element: or the C-terminus
unfoldable pub further : ℕ → Act
further b = cond (eqb b dash) (Go CStart) (element b)

unfoldable pub group_first : Section → Mode → ℕ → Act
group_first s m b = cond (is_letter b) (a_residue s m) Stop

unfoldable pub in_group : Section → Mode → Mode → ℕ → Act
in_group s m end b =
    cond (is_letter b) (a_residue s m)
    (cond (eqb b open_square) (Begin (square OnResidue true m))
    (cond (eqb b shut_round) (Go end) Stop))

-- brackets at the front go on, or `?` or `-` says what they were
unfoldable pub undecided : ℕ → Act
undecided b =
    cond (eqb b open_square) (Begin front)
    (cond (eqb b question) RunEnds
    (cond (eqb b dash) TermEnds Stop))

unfoldable pub counted : ℕ → Act
counted b = cond (eqb b open_square) (Begin (square Unknown false Counted)) (cond (eqb b question) RunEnds Stop)

unfoldable pub referred : ℕ → Act
referred b = cond (eqb b open_square) (Begin (square Unknown true Referred)) (cond (eqb b dash) TermEnds Stop)

-- where a run, a labile bracket, the N-terminus or the sequence may begin
abbrev pub at_front : ℕ → Act
at_front b = cond (eqb b open_square) (Begin front) (cond (eqb b open_curly) (Begin labile) (element b))

-- "`<[mod]@K,N-term>` at the front" (02, L2), then "A line has this order: runs of unknown-position brackets, each run closed by `?`, each bracket perhaps with `^` and a count; labile `{..}`;
-- N-terminal brackets and `-`; the sequence; `-` and C-terminal brackets."
unfoldable pub act : Mode → ℕ → Act
act Front b = cond (eqb b open_angle) (Go Angle) (at_front b)
act Angle b = cond (eqb b open_square) (Begin declared) Stop
act Tagged b = cond (eqb b at_sign) Places Stop
act Listed b = cond (eqb b shut_angle) (Go Front) Stop
act Runs b = at_front b
act Undecided b = cond (eqb b caret) (Go Caret) (undecided b)
act Counted b = cond (eqb b caret) (Go Caret) (counted b)
act Referred b = referred b
act Caret b = cond (is_digit b) Digit Stop
act Counting b = cond (is_digit b) Digit (counted b)
act Labiles b =
    cond (eqb b open_curly) (Begin labile)
    (cond (eqb b open_square) (Begin (square NTerm true NTerms)) (element b))
act NTerms b = cond (eqb b open_square) (Begin (square NTerm true NTerms)) (cond (eqb b dash) (Go Start) Stop)
act Start b = element b
act Single b = cond (eqb b open_square) (Begin (square OnResidue true Single)) (further b)
act Opened b = cond (eqb b question) (Go UnsureOpened) (group_first RangeFirst InRange b)
act UnsureOpened b = group_first UnsureFirst InUnsure b
act InRange b = in_group RangeNext InRange RangeEnd b
act InUnsure b = in_group UnsureNext InUnsure UnsureEnd b
act RangeEnd b = cond (eqb b open_square) (Begin (square OnRange false Ranged)) Stop
act Ranged b = cond (eqb b open_square) (Begin (square OnRange false Ranged)) (further b)
act UnsureEnd b = further b
act CStart b = cond (eqb b open_square) (Begin (square CTerm true CTerms)) Stop
act CTerms b = cond (eqb b open_square) (Begin (square CTerm true CTerms)) Stop

-- "All but the sequence may be missing": where a line may end
abbrev pub may_end : Mode → Bool
may_end Front = false
may_end Angle = false
may_end Tagged = false
may_end Listed = false
may_end Runs = false
may_end Undecided = false
may_end Counted = false
may_end Referred = false
may_end Caret = false
may_end Counting = false
may_end Labiles = false
may_end NTerms = false
may_end Start = false
may_end Single = true
may_end Opened = false
may_end UnsureOpened = false
may_end InRange = false
may_end InUnsure = false
may_end RangeEnd = false
may_end Ranged = true
may_end UnsureEnd = true
may_end CStart = false
may_end CTerms = true

-- ---- what is read so far

-- the residues; the brackets whose kind is settled; those at the front that are not; the position of the group's first residue
pub record Held (P : Type 0) : Type 0 where
  pub residues : List (Residue P)
  pub brackets : List (Bracket P)
  pub run : List (Bracket P)
  pub first : ℕ

abbrev pub nothing : {P : Type 0} → Held P
nothing = record { residues = []; brackets = []; run = []; first = 0 }

-- a group's further residue leaves the first as it was
abbrev pub first_of : Section → ℕ → ℕ → ℕ
first_of Plain here old = here
first_of RangeFirst here old = here
first_of RangeNext here old = old
first_of UnsureFirst here old = here
first_of UnsureNext here old = old

abbrev pub with_residue : {P : Type 0} → P → ℕ → Section → Held P → Held P
with_residue i b s h =
    record {
      residues = h.residues ++ (record { letter = upper b; section = s; at = i } ∷ []);
      brackets = h.brackets;
      run = h.run;
      first = first_of s (length h.residues + 1) h.first;
    }

-- "Position 0 is the N-terminus, 1 to n the residues, n+1 the C-terminus": where a bracket stands that is read behind n residues, at the front behind
-- none; one on a range stands at a
abbrev pub position_of : Kind → ℕ → ℕ → ℕ
position_of k n a = cond (is_on_range k) a (cond (is_kind CTerm k) (n + 1) n)

-- a range is from the first residue of its group to the last that is read
abbrev pub bracket_of : {P : Type 0} → Kind → P → List (Part P) → Held P → Bracket P
bracket_of k i ps h =
    record {
      kind = k;
      first = position_of k (length h.residues) h.first;
      last = position_of k (length h.residues) (length h.residues);
      count = 1;
      counted = none;
      parts = ps;
      places = [];
      at = i;
    }

abbrev pub settled : {P : Type 0} → Bracket P → Held P → Held P
settled k h = record { residues = h.residues; brackets = h.brackets ++ (k ∷ []); run = h.run; first = h.first }

abbrev pub waiting : {P : Type 0} → Bracket P → Held P → Held P
waiting k h = record { residues = h.residues; brackets = h.brackets; run = h.run ++ (k ∷ []); first = h.first }

-- a bracket at the front waits until its kind is known
abbrev pub put : {P : Type 0} → Kind → Bracket P → Held P → Held P
put c k h = cond (is_unknown c) (waiting k h) (settled k h)

abbrev pub with_bracket : {P : Type 0} → Kind → P → List (Part P) → Held P → Held P
with_bracket k i ps h = put k (bracket_of k i ps h) h

abbrev pub times : {P : Type 0} → ℕ → P → Bracket P → Bracket P
times n p k =
    record {
      kind = k.kind;
      first = k.first;
      last = k.last;
      count = n;
      counted = some p;
      parts = k.parts;
      places = k.places;
      at = k.at;
    }

-- one digit more of the count behind a bracket
abbrev pub count_digit : {P : Type 0} → P → ℕ → Bracket P → Bracket P
count_digit i b k = given k.counted (λ p. times (k.count * 10 + value b) p k) (times (value b) i k)

abbrev pub with_digit : {P : Type 0} → P → ℕ → Held P → Held P
with_digit i b h = record { residues = h.residues; brackets = h.brackets; run = on_last (count_digit i b) h.run; first = h.first }

abbrev pub as_nTerm : {P : Type 0} → Bracket P → Bracket P
as_nTerm k =
    record {
      kind = NTerm;
      first = k.first;
      last = k.last;
      count = k.count;
      counted = k.counted;
      parts = k.parts;
      places = k.places;
      at = k.at;
    }

-- the brackets at the front are settled
abbrev pub settled_run : {P : Type 0} → (Bracket P → Bracket P) → Held P → Held P
settled_run f h = record { residues = h.residues; brackets = h.brackets ++ map f h.run; run = []; first = h.first }

-- the bracket that was read last has these places
abbrev pub declared_at : {P : Type 0} → List (Place P) → Bracket P → Bracket P
declared_at ps k =
    record {
      kind = k.kind;
      first = k.first;
      last = k.last;
      count = k.count;
      counted = k.counted;
      parts = k.parts;
      places = ps;
      at = k.at;
    }

abbrev pub with_places : {P : Type 0} → List (Place P) → Held P → Held P
with_places ps h = record { residues = h.residues; brackets = on_last (declared_at ps) h.brackets; run = h.run; first = h.first }

-- ---- the reader

pub data State (P : Type 0) : Type 0 where
  dead : P → State P
  outside : Mode → Held P → State P
  inside : Slot → P → Held P → Inner P → State P
  placing : Held P → Placing P → State P

unfoldable pub perform : {P : Type 0} → P → ℕ → Held P → Act → State P
perform i b h Stop = dead i
perform i b h (Go m) = outside m h
perform i b h (a_residue s m) = outside m (with_residue i b s h)
perform i b h (Begin s) = inside s i h (begin (record { shut = s.shut; refers = s.refers; labels = s.labels; parts = [] }))
perform i b h Digit = outside Counting (with_digit i b h)
perform i b h RunEnds = outside Runs (settled_run (λ k. k) h)
perform i b h TermEnds = outside Start (settled_run as_nTerm h)
perform i b h Places = placing h (expected [])

-- a bracket is a reference when its one part is
abbrev pub refers? : {P : Type 0} → List (Part P) → Bool
refers? [] = false
refers? (p ∷ ps) = is_reference p.value

abbrev pub mode_after : {P : Type 0} → Slot → List (Part P) → Mode
mode_after s ps = cond (refers? ps) s.referred s.after

unfoldable pub resume : {P : Type 0} → Slot → P → Held P → P → Content P → State P
resume s at h i lost = dead i
resume s at h i (closed ps) = outside (mode_after s ps) (with_bracket s.kind at ps h)
resume s at h i (going c) = inside s at h c

-- one byte more, at the place i
unfoldable pub step : {P : Type 0} → P → State P → ℕ → State P
step i (dead p) b = dead p
step i (outside m h) b = perform i b h (act m b)
step i (inside s at h c) b = resume s at h i (inner_step i c b)
step i (placing h s) b =
    given (place_step i s b) (placing h) (given (places_end s) (λ ps. perform i b (with_places ps h) (act Listed b)) (dead i))

-- the bytes from the place i on; `note` is what is noted of a place
unfoldable pub run : {P : Type 0} → (ℕ → P) → ℕ → State P → List ℕ → State P
run note i s [] = s
run note i s (b ∷ l) = run note (i + 1) (step (note i) s b) l

abbrev pub start : {P : Type 0} → State P
start = outside Front nothing

-- 4 "first byte with which no line of any length begins so; else the line's length": the place of refusal 4, or what the line holds
pub data Reading : Type 0 where
  stuck : ℕ → Reading
  holds : Line ℕ → Reading

abbrev pub line_of : {P : Type 0} → Held P → Line P
line_of h = record { residues = h.residues; brackets = h.brackets }

abbrev pub ended : ℕ → State ℕ → Reading
ended n (dead p) = stuck p
ended n (outside m h) = cond (may_end m) (holds (line_of h)) (stuck n)
ended n (inside s at h c) = stuck n
ended n (placing h s) = stuck n

unfoldable pub reading : List ℕ → Reading
reading l = ended (length l) (run (λ i. i) 0 start l)
