-- From trees to the reader: the bytes that a good spelling of a line prints are read to what it means.
use Rattle.std.specs.Prelude.{ℕ, suc, ◌+◌, ◌*◌, ◌≡◌, Bool, false, cond, ◌&&◌, eqb}
use Rattle.std.proofs.Common.{arith, sym, ◌∙◌, length-append}
use Rattle.std.proofs.Math.Path.{refl, ap}
use Rattle.std.proofs.Math.Bool.{true}
use Rattle.std.proofs.lemmas.Bool.{false≢true}
use Rattle.std.proofs.Math.Option.{Option, none, some}
use mathlib.Core.List.{List, [], ◌∷◌, ◌++◌, map, append_assoc, append-nil, map-id}
use Rattle.std.proofs.Math.ListN.{length}
use Rattle.scope.specs.declared.grammar.Section.{Section}
use Rattle.scope.specs.declared.grammar.Section.TheVariants.{Plain, RangeFirst, RangeNext, UnsureFirst, UnsureNext}
use Rattle.scope.specs.declared.grammar.Kind.{Kind}
use Rattle.scope.specs.declared.grammar.Kind.TheVariants.{Unknown, Labile, NTerm, OnResidue, OnRange, CTerm, Declared}
use Rattle.scope.specs.declared.grammar.Mode.{Mode}
use Rattle.scope.specs.declared.grammar.Mode.TheVariants.{Front, Angle, Tagged, Runs, Undecided, Counted, Referred, Caret, Counting, Labiles, NTerms, Start, Single, Opened, UnsureOpened, InRange, InUnsure, RangeEnd, Ranged, UnsureEnd, CStart, CTerms}
use Rattle.scope.specs.declared.grammar.Slot.{Slot}
use Rattle.scope.specs.declared.grammar.Act.TheVariants.{Go, Residue as a_residue, Begin, Digit, RunEnds, TermEnds}
use Rattle.scope.specs.Bytes.{is_letter, is_digit, is_shutting, open_square, open_curly, open_round, shut_round, open_angle, shut_angle, at_sign, caret, question, dash, value}
use Rattle.scope.specs.Line.{Place, Bracket, Residue}
use Rattle.scope.specs.Content.{begin}
use Rattle.scope.specs.Reading.{square, front, labile, declared, element, further, group_first, in_group, undecided, counted, referred, act, may_end, Held, nothing, first_of, with_residue, position_of, settled, put, with_bracket, times, count_digit, with_digit, as_nTerm, settled_run, declared_at, with_places, State, outside, inside, placing, perform, refers?, mode_after, step, run, holds, ended, reading}
use Rattle.scope.specs.Places.{expected}
use Rattle.scope.specs.Lists.{on_last, all as every, flat}
use Rattle.basics.specs.Choice.{pick_true, pick_false}
use Rattle.basics.specs.Tests.{and_left, and_right, letter_not}
use Rattle.scope.specs.Grammar.{some_of, value_on, Inside, means_pieces, parts, refers, print_inside, good_inside, means_inside, print_square, print_curly, along, each_along, print_squares, good_squares, good_curlies, bracket_at, means_squares, print_targets, means_targets, Declaration, print_declaration, good_declaration, means_declaration, Marked, print_count, good_count, print_marked, good_marked, counting, means_marked, Run, marks, print_run, good_run, means_run, Spot, Element, single, range, unsure, print_spot, print_element, good_spot, good_element, residue_of, residues_on, residues_in, brackets_on, brackets_in, brackets_along, Spelling, elements, print_front, print_back, print, good, at_runs, at_labiles, at_front, at_sequence, residues_of, back_of, means_at, means}
use Rattle.grammar_laws.specs.Runs.{context, line_run, line_nil, line_cons, line_one, line_further, lift}
use Rattle.grammar_laws.proofs.Printed.{inside_run, no_base}
use Rattle.grammar_laws.proofs.Targets.{targets_run, targets_over}
use Rattle.basics.specs.Lists.{flat_cons, flat_nil, on_last_lem}
use Rattle.reading_laws.proofs.Unnoted.{same_mode}

abbrev Residues : Type 0
Residues = List (Residue ℕ)

abbrev Brackets : Type 0
Brackets = List (Bracket ℕ)

abbrev held : Residues → Brackets → Brackets → ℕ → Held ℕ
held rs ks run f = record { residues = rs; brackets = ks; run = run; first = f }

-- at the front, where no residue is read yet: the brackets that are settled, and those that wait
abbrev leading : Brackets → Brackets → Held ℕ
leading ks run = held [] ks run 0

-- ---- a bracket, the byte b of which is at the place i
bracket : (i : ℕ) (m : Mode) (s : Slot) (h : Held ℕ) (b : ℕ) (x : Inside) → act m b ≡ Begin s → is_shutting s.shut ≡ true → good_inside s.refers s.labels x ≡ true
    → line_run i (outside m h) (b ∷ (print_inside x ++ (s.shut ∷ []))) ≡ outside (mode_after s (means_inside (i + 1) x)) (with_bracket s.kind i (means_inside (i + 1) x) h)
unfolding step perform
bracket i m s h b x e f g =
    line_cons i (outside m h) b (print_inside x ++ (s.shut ∷ []))
    ∙ ap (λ z. line_run (i + 1) (perform i b h z) (print_inside x ++ (s.shut ∷ []))) e
    ∙ lift (i + 1) s i h (print_inside x ++ (s.shut ∷ [])) (begin (context s.shut s.refers s.labels [])) (means_inside (i + 1) x) (inside_run (i + 1) s.shut s.refers s.labels x f g)

-- a byte that only carries the order on
go : (i : ℕ) (m m' : Mode) (h : Held ℕ) (b : ℕ) → act m b ≡ Go m' → line_run i (outside m h) (b ∷ []) ≡ outside m' h
unfolding perform
go i m m' h b e = line_one i m h b ∙ ap (perform i b h) e

along_nil : {A B : Type 0} (p : A → List ℕ) (f : ℕ → A → B) (i : ℕ) → along p f i [] ≡ []
unfolding along
along_nil p f i = refl

along_cons : {A B : Type 0} (p : A → List ℕ) (f : ℕ → A → B) (i : ℕ) (x : A) (l : List A) → along p f i (x ∷ l) ≡ f i x ∷ along p f (i + length (p x)) l
unfolding along
along_cons p f i x l = refl

along_one : {A B : Type 0} (p : A → List ℕ) (f : ℕ → A → B) (i : ℕ) (x : A) → along p f i (x ∷ []) ≡ f i x ∷ []
along_one p f i x = along_cons p f i x [] ∙ ap (λ z. f i x ∷ z) (along_nil p f (i + length (p x)))

each_along_nil : {A B : Type 0} (p : A → List ℕ) (f : ℕ → A → List B) (i : ℕ) → each_along p f i [] ≡ []
unfolding each_along
each_along_nil p f i = refl

each_along_cons : {A B : Type 0} (p : A → List ℕ) (f : ℕ → A → List B) (i : ℕ) (x : A) (l : List A) → each_along p f i (x ∷ l) ≡ f i x ++ each_along p f (i + length (p x)) l
unfolding each_along
each_along_cons p f i x l = refl

every_head : {A : Type 0} (f : A → Bool) (x : A) (l : List A) → every f (x ∷ l) ≡ true → f x ≡ true
unfolding every
every_head f x l e = and_left (f x) (every f l) e

every_tail : {A : Type 0} (f : A → Bool) (x : A) (l : List A) → every f (x ∷ l) ≡ true → every f l ≡ true
unfolding every
every_tail f x l e = and_right (f x) (every f l) e

-- brackets of a settled kind, one behind another
module _ (k : Kind) (r : Bool) (m : Mode) (opens : act m open_square ≡ Begin (square k r m)) (settles : (b : Bracket ℕ) (h : Held ℕ) → put k b h ≡ settled b h) where
  at : ℕ → Held ℕ → Inside → Bracket ℕ
  at i h x = bracket_at k (position_of k (length h.residues) h.first) (position_of k (length h.residues) (length h.residues)) i x

  all : ℕ → Held ℕ → List Inside → Brackets
  all i h xs = means_squares k (position_of k (length h.residues) h.first) (position_of k (length h.residues) (length h.residues)) i xs

  square_from : (i : ℕ) (m₀ : Mode) (h : Held ℕ) (x : Inside) → act m₀ open_square ≡ Begin (square k r m) → good_inside r true x ≡ true
      → line_run i (outside m₀ h) (print_square x) ≡ outside m (settled (at i h x) h)
  unfolding at
  square_from i m₀ h x e g =
      bracket i m₀ (square k r m) h open_square x e refl g ∙ ap (λ z. outside z (with_bracket k i (means_inside (i + 1) x) h)) (same_mode (means_inside (i + 1) x) m) ∙ ap (outside m) (settles _ h)

  -- one in front of the others
  regroup : (i : ℕ) (h : Held ℕ) (x : Inside) (xs : List Inside)
      → (h.brackets ++ (at i h x ∷ [])) ++ all (i + length (print_square x)) h xs ≡ h.brackets ++ all i h (x ∷ xs)
  unfolding at all
  regroup i h x xs = append_assoc h.brackets (at i h x ∷ []) _ ∙ ap (λ z. h.brackets ++ z) (sym (along_cons print_square _ i x xs))

  squares_run : (i : ℕ) (xs : List Inside) (h : Held ℕ) → good_squares r xs ≡ true
      → line_run i (outside m h) (print_squares xs) ≡ outside m (held h.residues (h.brackets ++ means_squares k (position_of k (length h.residues) h.first) (position_of k (length h.residues) (length h.residues)) i xs) h.run h.first)
  unfolding at all
  squares_run i [] h g =
      ap (line_run i (outside m h)) (flat_nil print_square) ∙ line_nil i (outside m h)
      ∙ ap (λ z. outside m (held h.residues z h.run h.first)) (sym (append-nil h.brackets) ∙ ap (λ z. h.brackets ++ z) (sym (along_nil print_square _ i)))
  squares_run i (x ∷ xs) h g =
      ap (line_run i (outside m h)) (flat_cons print_square x xs)
      ∙ line_further i (print_square x) (print_squares xs) (outside m h) (outside m (settled (at i h x) h)) _ (square_from i m h x opens (every_head (good_inside r true) x xs g))
      (squares_run (i + length (print_square x)) xs (settled (at i h x) h) (every_tail (good_inside r true) x xs g))
      ∙ ap (λ z. outside m (held h.residues z h.run h.first)) (regroup i h x xs)

  -- one or more, from a mode in front
  squares_from : (i : ℕ) (m₀ : Mode) (x : Inside) (xs : List Inside) (h : Held ℕ) → act m₀ open_square ≡ Begin (square k r m) → good_squares r (x ∷ xs) ≡ true
      → line_run i (outside m₀ h) (print_squares (x ∷ xs)) ≡ outside m (held h.residues (h.brackets ++ means_squares k (position_of k (length h.residues) h.first) (position_of k (length h.residues) (length h.residues)) i (x ∷ xs)) h.run h.first)
  unfolding at all
  squares_from i m₀ x xs h e g =
      ap (line_run i (outside m₀ h)) (flat_cons print_square x xs)
      ∙ line_further i (print_square x) (print_squares xs) (outside m₀ h) (outside m (settled (at i h x) h)) _ (square_from i m₀ h x e (every_head (good_inside r true) x xs g))
      (squares_run (i + length (print_square x)) xs (settled (at i h x) h) (every_tail (good_inside r true) x xs g))
      ∙ ap (λ z. outside m (held h.residues z h.run h.first)) (regroup i h x xs)

-- ---- residues
module _ (m m' : Mode) (c : Section) (own : act m' open_square ≡ Begin (square OnResidue true m')) where
  spot_run : (i : ℕ) (s : Spot) (h : Held ℕ) → act m s.letter ≡ a_residue c m' → good_spot s ≡ true
      → line_run i (outside m h) (print_spot s) ≡ outside m' (held (h.residues ++ (residue_of c i s ∷ [])) (h.brackets ++ means_squares OnResidue (length h.residues + 1) (length h.residues + 1) (i + 1) s.brackets) h.run (first_of c (length h.residues + 1) h.first))
  unfolding step perform
  spot_run i s h e g =
      line_cons i (outside m h) s.letter (print_squares s.brackets)
      ∙ ap (λ z. line_run (i + 1) (perform i s.letter h z) (print_squares s.brackets)) e
      ∙ squares_run OnResidue true m' own (λ b q. refl) (i + 1) s.brackets (with_residue i s.letter c h) (and_right (is_letter s.letter) (good_squares true s.brackets) g)
      ∙ ap (λ z. outside m' (held (h.residues ++ (residue_of c i s ∷ [])) (h.brackets ++ means_squares OnResidue z z (i + 1) s.brackets) h.run (first_of c (length h.residues + 1) h.first))) (length-append h.residues ((residue_of c i s) ∷ []))

on_nil : (n i : ℕ) → brackets_on n i [] ≡ []
unfolding brackets_on
on_nil n i = refl

on_cons : (n i : ℕ) (s : Spot) (ss : List Spot) → brackets_on n i (s ∷ ss) ≡ means_squares OnResidue n n (i + 1) s.brackets ++ brackets_on (n + 1) (i + length (print_spot s)) ss
unfolding brackets_on
on_cons n i s ss = refl

on_one : (n i : ℕ) (s : Spot) → brackets_on n i (s ∷ []) ≡ means_squares OnResidue n n (i + 1) s.brackets
on_one n i s =
    on_cons n i s [] ∙ ap (λ z. means_squares OnResidue n n (i + 1) s.brackets ++ z) (on_nil (n + 1) (i + length (print_spot s))) ∙ append-nil (means_squares OnResidue n n (i + 1) s.brackets)

-- further residues of a group
module _ (m : Mode) (c : Section) (takes : (b : ℕ) → is_letter b ≡ true → act m b ≡ a_residue c m) (own : act m open_square ≡ Begin (square OnResidue true m)) (next : (here old : ℕ) → first_of c here old ≡ old) where
  spots_run : (i : ℕ) (ss : List Spot) (h : Held ℕ) → every good_spot ss ≡ true
      → line_run i (outside m h) (flat print_spot ss) ≡ outside m (held (h.residues ++ along print_spot (residue_of c) i ss) (h.brackets ++ brackets_on (length h.residues + 1) i ss) h.run h.first)
  spots_run i [] h g =
      ap (line_run i (outside m h)) (flat_nil print_spot) ∙ line_nil i (outside m h)
      ∙ ap (λ z. outside m (held z h.brackets h.run h.first)) (sym (append-nil h.residues) ∙ ap (λ z. h.residues ++ z) (sym (along_nil print_spot (residue_of c) i)))
      ∙ ap (λ z. outside m (held (h.residues ++ along print_spot (residue_of c) i []) z h.run h.first)) (sym (append-nil h.brackets) ∙ ap (λ z. h.brackets ++ z) (sym (on_nil (length h.residues + 1) i)))
  spots_run i (s ∷ ss) h g =
      let n = length h.residues in
      let j = i + length (print_spot s) in
      let k : Brackets = means_squares OnResidue (n + 1) (n + 1) (i + 1) s.brackets in
      let h₁ : Held ℕ = held (h.residues ++ (residue_of c i s ∷ [])) (h.brackets ++ k) h.run (first_of c (n + 1) h.first) in
      ap (line_run i (outside m h)) (flat_cons print_spot s ss)
      ∙ line_further i (print_spot s) (flat print_spot ss) (outside m h) (outside m h₁) _ (spot_run m m c own i s h (takes s.letter (and_left (is_letter s.letter) (good_squares true s.brackets) (every_head good_spot s ss g))) (every_head good_spot s ss g))
      (spots_run j ss h₁ (every_tail good_spot s ss g))
      ∙ ap (λ z. outside m (held z ((h.brackets ++ k) ++ brackets_on (length (h.residues ++ (residue_of c i s ∷ [])) + 1) j ss) h.run (first_of c (n + 1) h.first)))
      (append_assoc h.residues (residue_of c i s ∷ []) (along print_spot (residue_of c) j ss) ∙ ap (λ z. h.residues ++ z) (sym (along_cons print_spot (residue_of c) i s ss)))
      ∙ ap (λ z. outside m (held (h.residues ++ along print_spot (residue_of c) i (s ∷ ss)) ((h.brackets ++ k) ++ brackets_on (z + 1) j ss) h.run (first_of c (n + 1) h.first))) (length-append h.residues ((residue_of c i s) ∷ []))
      ∙ ap (λ z. outside m (held (h.residues ++ along print_spot (residue_of c) i (s ∷ ss)) z h.run (first_of c (n + 1) h.first))) (append_assoc h.brackets k (brackets_on (n + 1 + 1) j ss) ∙ ap (λ z. h.brackets ++ z) (sym (on_cons (n + 1) i s ss)))
      ∙ ap (λ z. outside m (held (h.residues ++ along print_spot (residue_of c) i (s ∷ ss)) (h.brackets ++ brackets_on (n + 1) i (s ∷ ss)) h.run z)) (next (n + 1) h.first)

  -- a group, its first residue read in another section
  group_run : (i : ℕ) (m₀ : Mode) (c₀ : Section) (s : Spot) (ss : List Spot) (h : Held ℕ) → ((b : ℕ) → is_letter b ≡ true → act m₀ b ≡ a_residue c₀ m) → ((here old : ℕ) → first_of c₀ here old ≡ here) → every good_spot (s ∷ ss) ≡ true
      → line_run i (outside m₀ h) (flat print_spot (s ∷ ss)) ≡ outside m (held (h.residues ++ residues_on c₀ c i s ss) (h.brackets ++ brackets_on (length h.residues + 1) i (s ∷ ss)) h.run (length h.residues + 1))
  group_run i m₀ c₀ s ss h takes₀ here g =
      let n = length h.residues in
      let j = i + length (print_spot s) in
      let k : Brackets = means_squares OnResidue (n + 1) (n + 1) (i + 1) s.brackets in
      let h₁ : Held ℕ = held (h.residues ++ (residue_of c₀ i s ∷ [])) (h.brackets ++ k) h.run (first_of c₀ (n + 1) h.first) in
      ap (line_run i (outside m₀ h)) (flat_cons print_spot s ss)
      ∙ line_further i (print_spot s) (flat print_spot ss) (outside m₀ h) (outside m h₁) _ (spot_run m₀ m c₀ own i s h (takes₀ s.letter (and_left (is_letter s.letter) (good_squares true s.brackets) (every_head good_spot s ss g))) (every_head good_spot s ss g))
      (spots_run j ss h₁ (every_tail good_spot s ss g))
      ∙ ap (λ z. outside m (held z ((h.brackets ++ k) ++ brackets_on (length (h.residues ++ (residue_of c₀ i s ∷ [])) + 1) j ss) h.run (first_of c₀ (n + 1) h.first))) (append_assoc h.residues (residue_of c₀ i s ∷ []) (along print_spot (residue_of c) j ss))
      ∙ ap (λ z. outside m (held (h.residues ++ residues_on c₀ c i s ss) ((h.brackets ++ k) ++ brackets_on (z + 1) j ss) h.run (first_of c₀ (n + 1) h.first))) (length-append h.residues ((residue_of c₀ i s) ∷ []))
      ∙ ap (λ z. outside m (held (h.residues ++ residues_on c₀ c i s ss) z h.run (first_of c₀ (n + 1) h.first))) (append_assoc h.brackets k (brackets_on (n + 1 + 1) j ss) ∙ ap (λ z. h.brackets ++ z) (sym (on_cons (n + 1) i s ss)))
      ∙ ap (λ z. outside m (held (h.residues ++ residues_on c₀ c i s ss) (h.brackets ++ brackets_on (n + 1) i (s ∷ ss)) h.run z)) (here (n + 1) h.first)

-- ---- elements
-- a mode in which an element may begin
pub record Begins (m : Mode) : Type 0 where
  pub letter : (b : ℕ) → is_letter b ≡ true → act m b ≡ a_residue Plain Single
  pub round : act m open_round ≡ Go Opened

-- a mode in which an element has ended
pub record Ends (m : Mode) : Type 0 where
  pub begins : Begins m
  pub back : act m dash ≡ Go CStart
  pub ends : may_end m ≡ true

element_letter : (b : ℕ) → is_letter b ≡ true → element b ≡ a_residue Plain Single
unfolding element
element_letter b e = pick_true (is_letter b) _ _ e

further_letter : (b : ℕ) → is_letter b ≡ true → further b ≡ a_residue Plain Single
unfolding further
further_letter b e = pick_false (eqb b dash) _ _ (letter_not b dash e refl) ∙ element_letter b e

-- at the front of a line, declarations apart, and behind a run
pub data AtFront : Mode → Type 0 where
  at_first : AtFront Front
  behind_run : AtFront Runs

front_acts : (m : Mode) → AtFront m → (b : ℕ) → eqb b open_angle ≡ false → act m b ≡ act Runs b
unfolding act
front_acts m at_first b e = pick_false (eqb b open_angle) _ _ e
front_acts m behind_run b e = refl

front_begins : (m : Mode) → AtFront m → Begins m
unfolding act element
front_begins m w = record { letter = λ b e. front_acts m w b (letter_not b open_angle e refl) ∙ pick_false (eqb b open_square) _ _ (letter_not b open_square e refl) ∙ pick_false (eqb b open_curly) _ _ (letter_not b open_curly e refl) ∙ element_letter b e; round = front_acts m w open_round refl }

labiles_begins : Begins Labiles
unfolding act element
labiles_begins = record { letter = λ b e. pick_false (eqb b open_curly) _ _ (letter_not b open_curly e refl) ∙ pick_false (eqb b open_square) _ _ (letter_not b open_square e refl) ∙ element_letter b e; round = refl }

start_begins : Begins Start
unfolding act element
start_begins = record { letter = λ b e. element_letter b e; round = refl }

single_ends : Ends Single
unfolding act element further
single_ends = record { begins = record { letter = λ b e. pick_false (eqb b open_square) _ _ (letter_not b open_square e refl) ∙ further_letter b e; round = refl }; back = refl; ends = refl }

ranged_ends : Ends Ranged
unfolding act element further
ranged_ends = record { begins = record { letter = λ b e. pick_false (eqb b open_square) _ _ (letter_not b open_square e refl) ∙ further_letter b e; round = refl }; back = refl; ends = refl }

unsure_ends : Ends UnsureEnd
unfolding act element further
unsure_ends = record { begins = record { letter = λ b e. further_letter b e; round = refl }; back = refl; ends = refl }

opened_letter : (b : ℕ) → is_letter b ≡ true → act Opened b ≡ a_residue RangeFirst InRange
unfolding act group_first
opened_letter b e = pick_false (eqb b question) _ _ (letter_not b question e refl) ∙ pick_true (is_letter b) _ _ e

unsure_letter : (b : ℕ) → is_letter b ≡ true → act UnsureOpened b ≡ a_residue UnsureFirst InUnsure
unfolding act group_first
unsure_letter b e = pick_true (is_letter b) _ _ e

range_letter : (b : ℕ) → is_letter b ≡ true → act InRange b ≡ a_residue RangeNext InRange
unfolding act in_group
range_letter b e = pick_true (is_letter b) _ _ e

in_unsure_letter : (b : ℕ) → is_letter b ≡ true → act InUnsure b ≡ a_residue UnsureNext InUnsure
unfolding act in_group
in_unsure_letter b e = pick_true (is_letter b) _ _ e

abbrev pub end_of : Element → Mode
end_of (single s) = Single
end_of (range s ss x xs) = Ranged
end_of (unsure s ss) = UnsureEnd

end_ends : (e : Element) → Ends (end_of e)
end_ends (single s) = single_ends
end_ends (range s ss x xs) = ranged_ends
end_ends (unsure s ss) = unsure_ends

own_single : act Single open_square ≡ Begin (square OnResidue true Single)
unfolding act
own_single = refl

own_range : act InRange open_square ≡ Begin (square OnResidue true InRange)
unfolding act in_group
own_range = refl

own_unsure : act InUnsure open_square ≡ Begin (square OnResidue true InUnsure)
unfolding act in_group
own_unsure = refl

range_ends : act InRange shut_round ≡ Go RangeEnd
unfolding act in_group
range_ends = refl

unsure_shuts : act InUnsure shut_round ≡ Go UnsureEnd
unfolding act in_group
unsure_shuts = refl

opened_unsure : act Opened question ≡ Go UnsureOpened
unfolding act
opened_unsure = refl

end_open : act RangeEnd open_square ≡ Begin (square OnRange false Ranged)
unfolding act
end_open = refl

ranged_open : act Ranged open_square ≡ Begin (square OnRange false Ranged)
unfolding act
ranged_open = refl

abbrev grown : ℕ → Held ℕ → Element → Held ℕ
grown i h e = held (h.residues ++ residues_in i e) (h.brackets ++ brackets_in (length h.residues) i e) h.run (length h.residues + 1)

-- a byte in front
line_then : (i : ℕ) (s s' y : State ℕ) (b : ℕ) (l : List ℕ) → line_run i s (b ∷ []) ≡ s' → line_run (i + 1) s' l ≡ y → line_run i s (b ∷ l) ≡ y
unfolding run
line_then i s s' y b l e f = ap (λ z. line_run (i + 1) z l) e ∙ f

group_length : (i : ℕ) (rs : Residues) (x : Residue ℕ) (c : Section) (ss : List Spot) → length (rs ++ (x ∷ along print_spot (residue_of c) i ss)) ≡ length rs + 1 + length ss
group_length i rs x c ss = length-append rs (x ∷ along print_spot (residue_of c) i ss) ∙ (let e = many i ss in omega arith)
  where
    many : (i : ℕ) (ss : List Spot) → length (along print_spot (residue_of c) i ss) ≡ length ss
    many i [] = ap length (along_nil print_spot (residue_of c) i)
    many i (s ∷ ss) = ap length (along_cons print_spot (residue_of c) i s ss) ∙ ap suc (many (i + length (print_spot s)) ss)

element_run : (i : ℕ) (e : Element) (m : Mode) (h : Held ℕ) → Begins m → good_element e ≡ true → line_run i (outside m h) (print_element e) ≡ outside (end_of e) (grown i h e)
element_run i (single s) m h w g =
    spot_run m Single Plain own_single i s h (w.letter s.letter (and_left (is_letter s.letter) (good_squares true s.brackets) g)) g
    ∙ ap (λ z. outside Single (held (h.residues ++ (residue_of Plain i s ∷ [])) (h.brackets ++ z) h.run (length h.residues + 1))) (sym (on_one (length h.residues + 1) i s))
element_run i (range s ss x xs) m h w g =
    let n = length h.residues in
    let j = i + 1 + length (flat print_spot (s ∷ ss)) in
    let rs : Residues = h.residues ++ residues_on RangeFirst RangeNext (i + 1) s ss in
    let ks : Brackets = h.brackets ++ brackets_on (n + 1) (i + 1) (s ∷ ss) in
    let h₁ : Held ℕ = held rs ks h.run (n + 1) in
    line_then i (outside m h) (outside Opened h) _ open_round _ (go i m Opened h open_round w.round)
    (line_further (i + 1) (flat print_spot (s ∷ ss)) (shut_round ∷ print_squares (x ∷ xs)) (outside Opened h) (outside InRange h₁) _
    (group_run InRange RangeNext range_letter own_range (λ a b. refl) (i + 1) Opened RangeFirst s ss h opened_letter (λ a b. refl) (and_left (every good_spot (s ∷ ss)) (good_squares false (x ∷ xs)) g))
    (line_then j (outside InRange h₁) (outside RangeEnd h₁) _ shut_round (print_squares (x ∷ xs)) (go j InRange RangeEnd h₁ shut_round range_ends)
    (squares_from OnRange false Ranged ranged_open (λ b q. refl) (j + 1) RangeEnd x xs h₁ end_open (and_right (every good_spot (s ∷ ss)) (good_squares false (x ∷ xs)) g))))
    ∙ ap (λ z. outside Ranged (held rs (ks ++ means_squares OnRange (n + 1) z (j + 1) (x ∷ xs)) h.run (n + 1))) (group_length (i + 1 + length (print_spot s)) h.residues (residue_of RangeFirst (i + 1) s) RangeNext ss)
    ∙ ap (λ z. outside Ranged (held rs z h.run (n + 1))) (append_assoc h.brackets (brackets_on (n + 1) (i + 1) (s ∷ ss)) _)
element_run i (unsure s ss) m h w g =
    let n = length h.residues in
    let h₁ : Held ℕ = held (h.residues ++ residues_on UnsureFirst UnsureNext (i + 1 + 1) s ss) (h.brackets ++ brackets_on (n + 1) (i + 1 + 1) (s ∷ ss)) h.run (n + 1) in
    line_then i (outside m h) (outside Opened h) _ open_round _ (go i m Opened h open_round w.round)
    (line_then (i + 1) (outside Opened h) (outside UnsureOpened h) _ question _ (go (i + 1) Opened UnsureOpened h question opened_unsure)
    (line_further (i + 1 + 1) (flat print_spot (s ∷ ss)) (shut_round ∷ []) (outside UnsureOpened h) (outside InUnsure h₁) _
    (group_run InUnsure UnsureNext in_unsure_letter own_unsure (λ a b. refl) (i + 1 + 1) UnsureOpened UnsureFirst s ss h unsure_letter (λ a b. refl) g) (go _ InUnsure UnsureEnd h₁ shut_round unsure_shuts)))

-- ---- the sequence
pub record Ran (i : ℕ) (h : Held ℕ) (m : Mode) (l : List ℕ) (rs : Residues) (ks : Brackets) : Type 0 where
  pub mode : Mode
  pub first : ℕ
  pub ends : Ends mode
  pub path : line_run i (outside m h) l ≡ outside mode (held (h.residues ++ rs) (h.brackets ++ ks) h.run first)

brackets_nil : (n i : ℕ) → brackets_along n i [] ≡ []
unfolding brackets_along
brackets_nil n i = refl

brackets_cons : (n i : ℕ) (e : Element) (es : List Element) → brackets_along n i (e ∷ es) ≡ brackets_in n i e ++ brackets_along (n + length (residues_in i e)) (i + length (print_element e)) es
unfolding brackets_along
brackets_cons n i e es = refl

elements_run : (i : ℕ) (es : List Element) (e : Element) (m : Mode) (h : Held ℕ) → Begins m → every good_element (e ∷ es) ≡ true
    → Ran i h m (flat print_element (e ∷ es)) (each_along print_element residues_in i (e ∷ es)) (brackets_along (length h.residues) i (e ∷ es))
elements_run i [] e m h w g =
    let n = length h.residues in
    let j = i + length (print_element e) in
    record {
      mode = end_of e;
      first = n + 1;
      ends = end_ends e;
      path =
          ap (line_run i (outside m h)) (flat_cons print_element e [] ∙ ap (λ z. print_element e ++ z) (flat_nil print_element) ∙ append-nil (print_element e))
          ∙ element_run i e m h w (every_head good_element e [] g)
          ∙ ap (λ z. outside (end_of e) (held (h.residues ++ z) (h.brackets ++ brackets_in n i e) h.run (n + 1)))
          (sym (each_along_cons print_element residues_in i e [] ∙ ap (λ z. residues_in i e ++ z) (each_along_nil print_element residues_in j) ∙ append-nil (residues_in i e)))
          ∙ ap (λ z. outside (end_of e) (held (h.residues ++ each_along print_element residues_in i (e ∷ [])) (h.brackets ++ z) h.run (n + 1)))
          (sym (brackets_cons n i e [] ∙ ap (λ z. brackets_in n i e ++ z) (brackets_nil (n + length (residues_in i e)) j) ∙ append-nil (brackets_in n i e)));
    }
elements_run i (e' ∷ es) e m h w g =
    let n = length h.residues in
    let j = i + length (print_element e) in
    let q = elements_run j es e' (end_of e) (grown i h e) (end_ends e).begins (every_tail good_element e (e' ∷ es) g) in
    record {
      mode = q.mode;
      first = q.first;
      ends = q.ends;
      path =
          ap (line_run i (outside m h)) (flat_cons print_element e (e' ∷ es))
          ∙ line_further i (print_element e) (flat print_element (e' ∷ es)) (outside m h) (outside (end_of e) (grown i h e)) _ (element_run i e m h w (every_head good_element e (e' ∷ es) g)) q.path
          ∙ ap (λ z. outside q.mode (held z ((h.brackets ++ brackets_in n i e) ++ brackets_along (length (h.residues ++ residues_in i e)) j (e' ∷ es)) h.run q.first))
          (append_assoc h.residues (residues_in i e) (each_along print_element residues_in j (e' ∷ es)) ∙ ap (λ z. h.residues ++ z) (sym (each_along_cons print_element residues_in i e (e' ∷ es))))
          ∙ ap (λ z. outside q.mode (held (h.residues ++ each_along print_element residues_in i (e ∷ e' ∷ es)) ((h.brackets ++ brackets_in n i e) ++ brackets_along z j (e' ∷ es)) h.run q.first)) (length-append h.residues (residues_in i e))
          ∙ ap (λ z. outside q.mode (held (h.residues ++ each_along print_element residues_in i (e ∷ e' ∷ es)) z h.run q.first))
          (append_assoc h.brackets (brackets_in n i e) (brackets_along (n + length (residues_in i e)) j (e' ∷ es)) ∙ ap (λ z. h.brackets ++ z) (sym (brackets_cons n i e (e' ∷ es))));
    }

-- ---- the end of a line
pub record Over (i : ℕ) (h : Held ℕ) (m : Mode) (l : List ℕ) (rs : Residues) (ks : Brackets) : Type 0 where
  pub mode : Mode
  pub first : ℕ
  pub ends : may_end mode ≡ true
  pub path : line_run i (outside m h) l ≡ outside mode (held rs ks h.run first)

start_open : act CStart open_square ≡ Begin (square CTerm true CTerms)
unfolding act
start_open = refl

cterms_open : act CTerms open_square ≡ Begin (square CTerm true CTerms)
unfolding act
cterms_open = refl

back_run : (i : ℕ) (xs : List Inside) (m : Mode) (h : Held ℕ) → Ends m → good_squares true xs ≡ true
    → Over i h m (print_back xs) h.residues (h.brackets ++ means_squares CTerm (length h.residues + 1) (length h.residues + 1) (i + 1) xs)
back_run i [] m h w g =
    record {
      mode = m;
      first = h.first;
      ends = w.ends;
      path = line_nil i (outside m h) ∙ ap (λ z. outside m (held h.residues z h.run h.first)) (sym (append-nil h.brackets) ∙ ap (λ z. h.brackets ++ z) (sym (along_nil print_square _ (i + 1))));
    }
back_run i (x ∷ xs) m h w g =
    record {
      mode = CTerms;
      first = h.first;
      ends = refl;
      path = line_then i (outside m h) (outside CStart h) _ dash (print_squares (x ∷ xs)) (go i m CStart h dash w.back) (squares_from CTerm true CTerms cterms_open (λ b q. refl) (i + 1) CStart x xs h start_open g);
    }

-- the sequence and the C-terminus
sequence_run : (i : ℕ) (e : Element) (es : List Element) (xs : List Inside) (m : Mode) (ks : Brackets) (f : ℕ) → Begins m → every good_element (e ∷ es) ≡ true → good_squares true xs ≡ true
    → Over i (held [] ks [] f) m (flat print_element (e ∷ es) ++ print_back xs) (each_along print_element residues_in i (e ∷ es))
    (ks ++ (brackets_along 0 i (e ∷ es) ++ means_squares CTerm (length (each_along print_element residues_in i (e ∷ es)) + 1) (length (each_along print_element residues_in i (e ∷ es)) + 1) (i + length (flat print_element (e ∷ es)) + 1) xs))
sequence_run i e es xs m ks f w g g' =
    let p = elements_run i es e m (held [] ks [] f) w g in
    let j = i + length (flat print_element (e ∷ es)) in
    let q = back_run j xs p.mode (held (each_along print_element residues_in i (e ∷ es)) (ks ++ brackets_along 0 i (e ∷ es)) [] p.first) p.ends g' in
    record {
      mode = q.mode;
      first = q.first;
      ends = q.ends;
      path =
          line_further i (flat print_element (e ∷ es)) (print_back xs) (outside m (held [] ks [] f)) _ _ p.path q.path
          ∙ ap (λ z. outside q.mode (held (each_along print_element residues_in i (e ∷ es)) z [] q.first)) (append_assoc ks (brackets_along 0 i (e ∷ es)) _);
    }

-- ---- runs of unknown position
-- where no reference may stand, none does
no_reference : (i : ℕ) (x : Inside) → good_inside false true x ≡ true → refers? (means_inside i x) ≡ false
unfolding means_pieces
no_reference i (parts p []) e = no_base i p.base
no_reference i (parts p (q ∷ ps)) e = no_base i p.base
no_reference i (refers t) e = absurd (false≢true e)

allowed_too : (x : Inside) → good_inside false true x ≡ true → good_inside true true x ≡ true
allowed_too (parts p ps) e = e
allowed_too (refers t) e = absurd (false≢true e)

-- a mode behind a bracket of a run, with or without a count behind it
pub data InRun : Mode → Type 0 where
  undecided_run : InRun Undecided
  counted_run : InRun Counted
  counting_run : InRun Counting

-- right behind a bracket
pub data Bare : Mode → Type 0 where
  undecided_bare : Bare Undecided
  counted_bare : Bare Counted

bare_run : (m : Mode) → Bare m → InRun m
bare_run m undecided_bare = undecided_run
bare_run m counted_bare = counted_run

bare_caret : (m : Mode) → Bare m → act m caret ≡ Go Caret
unfolding act
bare_caret m undecided_bare = refl
bare_caret m counted_bare = refl

run_ends : (m : Mode) → InRun m → act m question ≡ RunEnds
unfolding act undecided counted
run_ends m undecided_run = refl
run_ends m counted_run = refl
run_ends m counting_run = refl

pub record Waited (i : ℕ) (m : Mode) (bs ws : Brackets) (x : Inside) : Type 0 where
  pub mode : Mode
  pub bare : Bare mode
  pub path : line_run i (outside m (leading bs ws)) (print_square x) ≡ outside mode (leading bs (ws ++ (bracket_at Unknown 0 0 i x ∷ [])))

wait_front : (i : ℕ) (m : Mode) (bs ws : Brackets) (x : Inside) → act m open_square ≡ Begin front → good_inside false true x ≡ true → Waited i m bs ws x
wait_front i m bs ws x e g =
    record {
      mode = Undecided;
      bare = undecided_bare;
      path = bracket i m front (leading bs ws) open_square x e refl (allowed_too x g) ∙ ap (λ z. outside (cond z Referred Undecided) (leading bs (ws ++ (bracket_at Unknown 0 0 i x ∷ [])))) (no_reference (i + 1) x g);
    }

wait_counted : (i : ℕ) (m : Mode) (bs ws : Brackets) (x : Inside) → act m open_square ≡ Begin (square Unknown false Counted) → good_inside false true x ≡ true → Waited i m bs ws x
wait_counted i m bs ws x e g =
    record {
      mode = Counted;
      bare = counted_bare;
      path = bracket i m (square Unknown false Counted) (leading bs ws) open_square x e refl g ∙ ap (λ z. outside z (leading bs (ws ++ (bracket_at Unknown 0 0 i x ∷ [])))) (same_mode (means_inside (i + 1) x) Counted);
    }

waits : (i : ℕ) (m : Mode) (bs ws : Brackets) (x : Inside) → InRun m → good_inside false true x ≡ true → Waited i m bs ws x
unfolding act undecided counted
waits i m bs ws x undecided_run g = wait_front i Undecided bs ws x refl g
waits i m bs ws x counted_run g = wait_counted i Counted bs ws x refl g
waits i m bs ws x counting_run g = wait_counted i Counting bs ws x refl g

front_opens : (m : Mode) → AtFront m → act m open_square ≡ Begin front
unfolding act
front_opens m w = front_acts m w open_square refl

-- counts
last_snoc : (f : Bracket ℕ → Bracket ℕ) (l : Brackets) (x : Bracket ℕ) → on_last f (l ++ (x ∷ [])) ≡ l ++ (f x ∷ [])
unfolding on_last
last_snoc f [] x = refl
last_snoc f (y ∷ []) x = refl
last_snoc f (y ∷ z ∷ l) x = ap (λ v. y ∷ v) (last_snoc f (z ∷ l) x)

digit_run_lem : (i : ℕ) (m : Mode) (h : Held ℕ) (b : ℕ) → act m b ≡ Digit → line_run i (outside m h) (b ∷ []) ≡ outside Counting (with_digit i b h)
unfolding perform
digit_run_lem i m h b e = line_one i m h b ∙ ap (perform i b h) e

caret_digit : (b : ℕ) → is_digit b ≡ true → act Caret b ≡ Digit
unfolding act
caret_digit b e = pick_true (is_digit b) _ _ e

counting_digit : (b : ℕ) → is_digit b ≡ true → act Counting b ≡ Digit
unfolding act
counting_digit b e = pick_true (is_digit b) _ _ e

-- p is the place of the first digit
digits_run : (i p : ℕ) (ds : List ℕ) (ks l : Brackets) (v : ℕ) (k : Bracket ℕ) → every is_digit ds ≡ true
    → line_run i (outside Counting (leading ks (l ++ (times v p k ∷ [])))) ds ≡ outside Counting (leading ks (l ++ (times (value_on v ds) p k ∷ [])))
unfolding every value_on
digits_run i p [] ks l v k e = line_nil i _
digits_run i p (b ∷ ds) ks l v k e =
    line_then i (outside Counting (leading ks (l ++ (times v p k ∷ [])))) _ _ b ds (digit_run_lem i Counting (leading ks (l ++ (times v p k ∷ []))) b (counting_digit b (and_left (is_digit b) (every is_digit ds) e)))
    (ap (λ z. line_run (i + 1) (outside Counting (leading ks z)) ds) (last_snoc (count_digit i b) l (times v p k)) ∙ digits_run (i + 1) p ds ks l (v * 10 + value b) k (and_right (is_digit b) (every is_digit ds) e))

count_run : (i j : ℕ) (ds : List ℕ) (ks l : Brackets) (x : Inside) → some_of is_digit ds ≡ true
    → line_run i (outside Caret (leading ks (l ++ (bracket_at Unknown 0 0 j x ∷ [])))) ds ≡ outside Counting (leading ks (l ++ (times (value_on 0 ds) i (bracket_at Unknown 0 0 j x) ∷ [])))
unfolding every value_on
count_run i j [] ks l x e = absurd (false≢true e)
count_run i j (b ∷ ds) ks l x e =
    let k : Bracket ℕ = bracket_at Unknown 0 0 j x in
    line_then i (outside Caret (leading ks (l ++ (k ∷ [])))) _ _ b ds (digit_run_lem i Caret (leading ks (l ++ (k ∷ []))) b (caret_digit b (and_left (is_digit b) (every is_digit ds) e)))
    (ap (λ z. line_run (i + 1) (outside Counting (leading ks z)) ds) (last_snoc (count_digit i b) l k)
    ∙ digits_run (i + 1) i ds ks l (value b) k (and_right (is_digit b) (every is_digit ds) e)
    ∙ ap (λ z. outside Counting (leading ks (l ++ (times (value_on z ds) i k ∷ [])))) (omega arith))

pub record RunNoted (i : ℕ) (m : Mode) (bs ws : Brackets) (l : List ℕ) (ks : Brackets) : Type 0 where
  pub mode : Mode
  pub run : InRun mode
  pub path : line_run i (outside m (leading bs ws)) l ≡ outside mode (leading bs (ws ++ ks))

counted_mark : (i : ℕ) (o : Option (List ℕ)) (m : Mode) (bs ws : Brackets) (x : Inside) → good_count o ≡ true → Waited i m bs ws x
    → RunNoted i m bs ws (print_square x ++ print_count o) (counting (i + length (print_square x)) o (bracket_at Unknown 0 0 i x) ∷ [])
counted_mark i none m bs ws x g w = record { mode = w.mode; run = bare_run w.mode w.bare; path = ap (line_run i (outside m (leading bs ws))) (append-nil (print_square x)) ∙ w.path }
counted_mark i (some ds) m bs ws x g w =
    let ws₁ : Brackets = ws ++ (bracket_at Unknown 0 0 i x ∷ []) in
    let j = i + length (print_square x) in
    record {
      mode = Counting;
      run = counting_run;
      path =
          line_further i (print_square x) (caret ∷ ds) (outside m (leading bs ws)) (outside w.mode (leading bs ws₁)) _ w.path
          (line_then j (outside w.mode (leading bs ws₁)) (outside Caret (leading bs ws₁)) _ caret ds (go j w.mode Caret (leading bs ws₁) caret (bare_caret w.mode w.bare)) (count_run (j + 1) i ds bs ws x g));
    }

mark_run : (i : ℕ) (x : Marked) (m : Mode) (bs ws : Brackets) → InRun m → good_marked x ≡ true → RunNoted i m bs ws (print_marked x) (means_marked i x ∷ [])
mark_run i x m bs ws w g =
    counted_mark i x.count m bs ws x.inside (and_right (good_inside false true x.inside) (good_count x.count) g) (waits i m bs ws x.inside w (and_left (good_inside false true x.inside) (good_count x.count) g))

marks_on : (i : ℕ) (xs : List Marked) (x : Marked) (m : Mode) (bs ws : Brackets) → every good_marked xs ≡ true → RunNoted i m bs ws (print_marked x) (means_marked i x ∷ []) → RunNoted i m bs ws (flat print_marked (x ∷ xs)) (along print_marked means_marked i (x ∷ xs))
marks_on i [] x m bs ws g w =
    record {
      mode = w.mode;
      run = w.run;
      path =
          ap (line_run i (outside m (leading bs ws))) (flat_cons print_marked x [] ∙ ap (λ z. print_marked x ++ z) (flat_nil print_marked) ∙ append-nil (print_marked x))
          ∙ w.path
          ∙ ap (λ z. outside w.mode (leading bs (ws ++ z))) (sym (along_one print_marked means_marked i x));
    }
marks_on i (y ∷ xs) x m bs ws g w =
    let ws₁ : Brackets = ws ++ (means_marked i x ∷ []) in
    let j = i + length (print_marked x) in
    let q = marks_on j xs y w.mode bs ws₁ (every_tail good_marked y xs g) (mark_run j y w.mode bs ws₁ w.run (every_head good_marked y xs g)) in
    record {
      mode = q.mode;
      run = q.run;
      path =
          ap (line_run i (outside m (leading bs ws))) (flat_cons print_marked x (y ∷ xs))
          ∙ line_further i (print_marked x) (flat print_marked (y ∷ xs)) (outside m (leading bs ws)) (outside w.mode (leading bs ws₁)) _ w.path q.path
          ∙ ap (λ z. outside q.mode (leading bs z))
          (append_assoc ws (means_marked i x ∷ []) (along print_marked means_marked j (y ∷ xs)) ∙ ap (λ z. ws ++ z) (sym (along_cons print_marked means_marked i x (y ∷ xs))));
    }

run_over : (i : ℕ) (m : Mode) (h : Held ℕ) → InRun m → line_run i (outside m h) (question ∷ []) ≡ outside Runs (settled_run (λ k. k) h)
unfolding perform
run_over i m h w = line_one i m h question ∙ ap (perform i question h) (run_ends m w)

run_run : (i : ℕ) (r : Run) (m : Mode) (ks : Brackets) → AtFront m → good_run r ≡ true → line_run i (outside m (leading ks [])) (print_run r) ≡ outside Runs (leading (ks ++ means_run i r) [])
run_run i r m ks w g =
    let x = r.first in
    let g₀ = every_head good_marked x r.more g in
    let q = marks_on i r.more x m ks [] (every_tail good_marked x r.more g) (counted_mark i x.count m ks [] x.inside (and_right (good_inside false true x.inside) (good_count x.count) g₀) (wait_front i m ks [] x.inside (front_opens m w) (and_left (good_inside false true x.inside) (good_count x.count) g₀))) in
    line_further i (flat print_marked (marks r)) (question ∷ []) (outside m (leading ks [])) _ _ q.path (run_over _ q.mode _ q.run)
    ∙ ap (λ z. outside Runs (leading (ks ++ z) [])) (map-id (means_run i r))

-- the runs, and where they lead
pub record RunsRead (i : ℕ) (m : Mode) (ks : Brackets) (l : List ℕ) (xs : Brackets) : Type 0 where
  pub mode : Mode
  pub front : AtFront mode
  pub path : line_run i (outside m (leading ks [])) l ≡ outside mode (leading (ks ++ xs) [])

runs_run : (i : ℕ) (rr : List Run) (m : Mode) (ks : Brackets) → AtFront m → every good_run rr ≡ true → RunsRead i m ks (flat print_run rr) (each_along print_run means_run i rr)
runs_run i [] m ks w g =
    record {
      mode = m;
      front = w;
      path =
          ap (line_run i (outside m (leading ks []))) (flat_nil print_run) ∙ line_nil i _
          ∙ ap (λ z. outside m (leading z [])) (sym (append-nil ks) ∙ ap (λ z. ks ++ z) (sym (each_along_nil print_run means_run i)));
    }
runs_run i (r ∷ rr) m ks w g =
    let q = runs_run (i + length (print_run r)) rr Runs (ks ++ means_run i r) behind_run (every_tail good_run r rr g) in
    record {
      mode = q.mode;
      front = q.front;
      path =
          ap (line_run i (outside m (leading ks []))) (flat_cons print_run r rr)
          ∙ line_further i (print_run r) (flat print_run rr) (outside m (leading ks [])) _ _ (run_run i r m ks w (every_head good_run r rr g)) q.path
          ∙ ap (λ z. outside q.mode (leading z [])) (append_assoc ks (means_run i r) (each_along print_run means_run (i + length (print_run r)) rr) ∙ ap (λ z. ks ++ z) (sym (each_along_cons print_run means_run i r rr)));
    }

-- ---- labile brackets
abbrev means_curlies : ℕ → List Inside → Brackets
means_curlies i xs = along print_curly (bracket_at Labile 0 0) i xs

curly_run : (i : ℕ) (m : Mode) (bs : Brackets) (x : Inside) → act m open_curly ≡ Begin labile → good_inside false false x ≡ true → line_run i (outside m (leading bs [])) (print_curly x) ≡ outside Labiles (leading (bs ++ (bracket_at Labile 0 0 i x ∷ [])) [])
curly_run i m bs x e g = bracket i m labile (leading bs []) open_curly x e refl g ∙ ap (λ z. outside z (leading (bs ++ (bracket_at Labile 0 0 i x ∷ [])) [])) (same_mode (means_inside (i + 1) x) Labiles)

labiles_open : act Labiles open_curly ≡ Begin labile
unfolding act
labiles_open = refl

front_curly : (m : Mode) → AtFront m → act m open_curly ≡ Begin labile
unfolding act
front_curly m w = front_acts m w open_curly refl

curlies_from : (i : ℕ) (xs : List Inside) (x : Inside) (m : Mode) (bs : Brackets) → act m open_curly ≡ Begin labile → good_curlies (x ∷ xs) ≡ true
    → line_run i (outside m (leading bs [])) (flat print_curly (x ∷ xs)) ≡ outside Labiles (leading (bs ++ means_curlies i (x ∷ xs)) [])
curlies_from i [] x m bs e g =
    ap (line_run i (outside m (leading bs []))) (flat_cons print_curly x [] ∙ ap (λ z. print_curly x ++ z) (flat_nil print_curly) ∙ append-nil (print_curly x)) ∙ curly_run i m bs x e (every_head (good_inside false false) x [] g)
    ∙ ap (λ z. outside Labiles (leading (bs ++ z) [])) (sym (along_one print_curly (bracket_at Labile 0 0) i x))
curlies_from i (y ∷ xs) x m bs e g =
    ap (line_run i (outside m (leading bs []))) (flat_cons print_curly x (y ∷ xs))
    ∙ line_further i (print_curly x) (flat print_curly (y ∷ xs)) (outside m (leading bs [])) (outside Labiles (leading (bs ++ (bracket_at Labile 0 0 i x ∷ [])) [])) _ (curly_run i m bs x e (every_head (good_inside false false) x (y ∷ xs) g))
    (curlies_from (i + length (print_curly x)) xs y Labiles (bs ++ (bracket_at Labile 0 0 i x ∷ [])) labiles_open (every_tail (good_inside false false) x (y ∷ xs) g))
    ∙ ap (λ z. outside Labiles (leading z [])) (append_assoc (bs) (bracket_at Labile 0 0 i x ∷ []) _ ∙ ap (λ z. bs ++ z) (sym (along_cons print_curly (bracket_at Labile 0 0) i x (y ∷ xs))))

-- where the runs are over: no labile bracket yet, or some
pub data Fronts : Mode → Type 0 where
  at_front_lem : {m : Mode} → AtFront m → Fronts m
  at_labiles_lem : Fronts Labiles

fronts_begin : (m : Mode) → Fronts m → Begins m
fronts_begin m (at_front_lem w) = front_begins m w
fronts_begin m at_labiles_lem = labiles_begins

pub record Labelless (i : ℕ) (m : Mode) (ks : Brackets) (l : List ℕ) (xs : Brackets) : Type 0 where
  pub mode : Mode
  pub fronts : Fronts mode
  pub path : line_run i (outside m (leading ks [])) l ≡ outside mode (leading (ks ++ xs) [])

curlies_run : (i : ℕ) (xs : List Inside) (m : Mode) (ks : Brackets) → AtFront m → good_curlies xs ≡ true → Labelless i m ks (flat print_curly xs) (means_curlies i xs)
curlies_run i [] m ks w g =
    record {
      mode = m;
      fronts = at_front_lem w;
      path =
          ap (line_run i (outside m (leading ks []))) (flat_nil print_curly) ∙ line_nil i _
          ∙ ap (λ z. outside m (leading z [])) (sym (append-nil ks) ∙ ap (λ z. ks ++ z) (sym (along_nil print_curly (bracket_at Labile 0 0) i)));
    }
curlies_run i (x ∷ xs) m ks w g = record { mode = Labiles; fronts = at_labiles_lem; path = curlies_from i xs x m ks (front_curly m w) g }

-- ---- the N-terminus
-- brackets at the front that wait, a reference among them or not
pub data Waits : Mode → Type 0 where
  undecided_waits : Waits Undecided
  referred_waits : Waits Referred

pub record Pending (i : ℕ) (m : Mode) (bs ws : Brackets) (l : List ℕ) (ks : Brackets) : Type 0 where
  pub mode : Mode
  pub waits : Waits mode
  pub path : line_run i (outside m (leading bs ws)) l ≡ outside mode (leading bs (ws ++ ks))

pend_front : (i : ℕ) (m : Mode) (bs ws : Brackets) (x : Inside) → act m open_square ≡ Begin front → good_inside true true x ≡ true → Pending i m bs ws (print_square x) (bracket_at Unknown 0 0 i x ∷ [])
pend_front i m bs ws x e g = record { mode = cond (refers? (means_inside (i + 1) x)) Referred Undecided; waits = either (refers? (means_inside (i + 1) x)); path = bracket i m front (leading bs ws) open_square x e refl g }
  where
    either : (t : Bool) → Waits (cond t Referred Undecided)
    either true = referred_waits
    either false = undecided_waits

pend : (i : ℕ) (m : Mode) (bs ws : Brackets) (x : Inside) → Waits m → good_inside true true x ≡ true → Pending i m bs ws (print_square x) (bracket_at Unknown 0 0 i x ∷ [])
unfolding act undecided referred
pend i m bs ws x undecided_waits g = pend_front i Undecided bs ws x refl g
pend i m bs ws x referred_waits g =
    record {
      mode = Referred;
      waits = referred_waits;
      path = bracket i Referred (square Unknown true Referred) (leading bs ws) open_square x refl refl g ∙ ap (λ z. outside z (leading bs (ws ++ (bracket_at Unknown 0 0 i x ∷ [])))) (same_mode (means_inside (i + 1) x) Referred);
    }

pend_all : (i : ℕ) (xs : List Inside) (x : Inside) (m : Mode) (bs ws : Brackets) → good_squares true xs ≡ true → Pending i m bs ws (print_square x) (bracket_at Unknown 0 0 i x ∷ []) → Pending i m bs ws (print_squares (x ∷ xs)) (means_squares Unknown 0 0 i (x ∷ xs))
pend_all i [] x m bs ws g w =
    record {
      mode = w.mode;
      waits = w.waits;
      path =
          ap (line_run i (outside m (leading bs ws))) (flat_cons print_square x [] ∙ ap (λ z. print_square x ++ z) (flat_nil print_square) ∙ append-nil (print_square x))
          ∙ w.path
          ∙ ap (λ z. outside w.mode (leading bs (ws ++ z))) (sym (along_one print_square (bracket_at Unknown 0 0) i x));
    }
pend_all i (y ∷ xs) x m bs ws g w =
    let ws₁ : Brackets = ws ++ (bracket_at Unknown 0 0 i x ∷ []) in
    let j = i + length (print_square x) in
    let q = pend_all j xs y w.mode bs ws₁ (every_tail (good_inside true true) y xs g) (pend j w.mode bs ws₁ y w.waits (every_head (good_inside true true) y xs g)) in
    record {
      mode = q.mode;
      waits = q.waits;
      path =
          ap (line_run i (outside m (leading bs ws))) (flat_cons print_square x (y ∷ xs))
          ∙ line_further i (print_square x) (print_squares (y ∷ xs)) (outside m (leading bs ws)) (outside w.mode (leading bs ws₁)) _ w.path q.path
          ∙ ap (λ z. outside q.mode (leading bs z))
          (append_assoc ws (bracket_at Unknown 0 0 i x ∷ []) _ ∙ ap (λ z. ws ++ z) (sym (along_cons print_square (bracket_at Unknown 0 0) i x (y ∷ xs))));
    }

term_ends : (m : Mode) → Waits m → act m dash ≡ TermEnds
unfolding act undecided referred
term_ends m undecided_waits = refl
term_ends m referred_waits = refl

term_over : (i : ℕ) (m : Mode) (h : Held ℕ) → Waits m → line_run i (outside m h) (dash ∷ []) ≡ outside Start (settled_run as_nTerm h)
unfolding perform
term_over i m h w = line_one i m h dash ∙ ap (perform i dash h) (term_ends m w)

as_nterm : (i : ℕ) (xs : List Inside) → map as_nTerm (means_squares Unknown 0 0 i xs) ≡ means_squares NTerm 0 0 i xs
unfolding along
as_nterm i [] = refl
as_nterm i (x ∷ xs) = ap (λ z. bracket_at NTerm 0 0 i x ∷ z) (as_nterm (i + length (print_square x)) xs)

labiles_square : act Labiles open_square ≡ Begin (square NTerm true NTerms)
unfolding act
labiles_square = refl

nterms_open : act NTerms open_square ≡ Begin (square NTerm true NTerms)
unfolding act
nterms_open = refl

nterms_dash : act NTerms dash ≡ Go Start
unfolding act
nterms_dash = refl

pub record Begun (i : ℕ) (m : Mode) (bs : Brackets) (l : List ℕ) (ks : Brackets) : Type 0 where
  pub mode : Mode
  pub begins : Begins mode
  pub path : line_run i (outside m (leading bs [])) l ≡ outside mode (leading (bs ++ ks) [])

front_run : (i : ℕ) (xs : List Inside) (m : Mode) (ks : Brackets) → Fronts m → good_squares true xs ≡ true → Begun i m ks (print_front xs) (means_squares NTerm 0 0 i xs)
front_run i [] m ks w g =
    record {
      mode = m;
      begins = fronts_begin m w;
      path = line_nil i _ ∙ ap (λ z. outside m (leading z [])) (sym (append-nil ks) ∙ ap (λ z. ks ++ z) (sym (along_nil print_square (bracket_at NTerm 0 0) i)));
    }
front_run i (x ∷ xs) m ks (at_front_lem w) g =
    let q = pend_all i xs x m ks [] (every_tail (good_inside true true) x xs g) (pend_front i m ks [] x (front_opens m w) (every_head (good_inside true true) x xs g)) in
    record {
      mode = Start;
      begins = start_begins;
      path =
          line_further i (print_squares (x ∷ xs)) (dash ∷ []) (outside m (leading ks [])) _ _ q.path (term_over _ q.mode _ q.waits) ∙ ap (λ z. outside Start (leading (ks ++ z) [])) (as_nterm i (x ∷ xs));
    }
front_run i (x ∷ xs) m ks at_labiles_lem g =
    record {
      mode = Start;
      begins = start_begins;
      path =
          line_further i (print_squares (x ∷ xs)) (dash ∷ []) (outside Labiles (leading ks [])) _ _ (squares_from NTerm true NTerms nterms_open (λ b q. refl) i Labiles x xs (leading ks []) labiles_square g) (go _ NTerms Start _ dash nterms_dash);
    }

-- ---- declarations
angle_opens : act Front open_angle ≡ Go Angle
unfolding act
angle_opens = refl

angle_square : act Angle open_square ≡ Begin declared
unfolding act
angle_square = refl

-- the bracket of a declaration, its places still to come
abbrev declared_bare : ℕ → Inside → Bracket ℕ
declared_bare i x = bracket_at Declared 0 0 i x

tagged_run : (i : ℕ) (h : Held ℕ) → line_run i (outside Tagged h) (at_sign ∷ []) ≡ placing h (expected [])
unfolding act perform
tagged_run i h = line_one i Tagged h at_sign

with_places_lem : (ps : List (Place ℕ)) (ks : Brackets) (k : Bracket ℕ) → with_places ps (leading (ks ++ (k ∷ [])) []) ≡ leading (ks ++ (declared_at ps k ∷ [])) []
with_places_lem ps ks k = ap (λ z. leading z []) (on_last_lem (declared_at ps) ks k)

declaration_run : (i : ℕ) (d : Declaration) (ks : Brackets) → good_declaration d ≡ true
    → line_run i (outside Front (leading ks [])) (print_declaration d) ≡ outside Front (leading (ks ++ (means_declaration i d ∷ [])) [])
declaration_run i d ks g =
    let x = d.inside in
    let j = i + 1 + length (print_square x) in
    let h : Held ℕ = leading (ks ++ (declared_bare (i + 1) x ∷ [])) [] in
    let t = targets_run h (j + 1) [] d.more d.first (and_right (good_inside false false x) _ g) in
    line_further i (open_angle ∷ []) (print_square x ++ (at_sign ∷ (print_targets d.first d.more ++ (shut_angle ∷ [])))) _ (outside Angle (leading ks [])) _
    (go i Front Angle (leading ks []) open_angle angle_opens)
    (line_further (i + 1) (print_square x) (at_sign ∷ (print_targets d.first d.more ++ (shut_angle ∷ []))) _ (outside Tagged h) _
    (bracket (i + 1) Angle declared (leading ks []) open_square x angle_square refl (and_left (good_inside false false x) _ g)
    ∙ ap (λ z. outside z h) (same_mode (means_inside (i + 1 + 1) x) Tagged))
    (line_further j (at_sign ∷ []) (print_targets d.first d.more ++ (shut_angle ∷ [])) _ (placing h (expected [])) _ (tagged_run j h)
    (line_further (j + 1) (print_targets d.first d.more) (shut_angle ∷ []) _ _ _ t.path (targets_over h _ t.before t.last))))
    ∙ ap (λ ps. outside Front (with_places ps h)) t.all
    ∙ ap (outside Front) (with_places_lem (means_targets (j + 1) d.first d.more) ks (declared_bare (i + 1) x))

abbrev means_declarations : ℕ → List Declaration → Brackets
means_declarations i ds = along print_declaration means_declaration i ds

declarations_run : (i : ℕ) (ds : List Declaration) (ks : Brackets) → every good_declaration ds ≡ true
    → line_run i (outside Front (leading ks [])) (flat print_declaration ds) ≡ outside Front (leading (ks ++ means_declarations i ds) [])
declarations_run i [] ks g =
    ap (line_run i (outside Front (leading ks []))) (flat_nil print_declaration) ∙ line_nil i _
    ∙ ap (λ z. outside Front (leading z [])) (sym (append-nil ks) ∙ ap (λ z. ks ++ z) (sym (along_nil print_declaration means_declaration i)))
declarations_run i (d ∷ ds) ks g =
    ap (line_run i (outside Front (leading ks []))) (flat_cons print_declaration d ds)
    ∙ line_further i (print_declaration d) (flat print_declaration ds) _ _ _ (declaration_run i d ks (every_head good_declaration d ds g))
    (declarations_run (i + length (print_declaration d)) ds (ks ++ (means_declaration i d ∷ [])) (every_tail good_declaration d ds g))
    ∙ ap (λ z. outside Front (leading z [])) (append_assoc ks (means_declaration i d ∷ []) _ ∙ ap (λ z. ks ++ z) (sym (along_cons print_declaration means_declaration i d ds)))

-- ---- a line
-- its four pieces behind the declarations
whole_run : (i : ℕ) (a b c d : List ℕ) (k₀ k₁ k₂ k₃ ks : Brackets) (rs : Residues) (m₀ m₁ m₂ m₃ : Mode) (f : ℕ) → line_run i (outside Front (leading k₀ [])) a ≡ outside m₀ (leading (k₀ ++ k₁) [])
    → line_run (i + length a) (outside m₀ (leading (k₀ ++ k₁) [])) b ≡ outside m₁ (leading ((k₀ ++ k₁) ++ k₂) [])
    → line_run (i + length a + length b) (outside m₁ (leading ((k₀ ++ k₁) ++ k₂) [])) c ≡ outside m₂ (leading (((k₀ ++ k₁) ++ k₂) ++ k₃) [])
    → line_run (i + length a + length b + length c) (outside m₂ (leading (((k₀ ++ k₁) ++ k₂) ++ k₃) [])) d ≡ outside m₃ (held rs ((((k₀ ++ k₁) ++ k₂) ++ k₃) ++ ks) [] f)
    → line_run i (outside Front (leading k₀ [])) (a ++ (b ++ (c ++ d))) ≡ outside m₃ (held rs (k₀ ++ (k₁ ++ (k₂ ++ (k₃ ++ ks)))) [] f)
whole_run i a b c d k₀ k₁ k₂ k₃ ks rs m₀ m₁ m₂ m₃ f p q r s =
    line_further i a (b ++ (c ++ d)) _ _ _ p (line_further (i + length a) b (c ++ d) _ _ _ q (line_further (i + length a + length b) c d _ _ _ r s))
    ∙ ap (λ z. outside m₃ (held rs z [] f)) (append_assoc ((k₀ ++ k₁) ++ k₂) k₃ ks ∙ append_assoc (k₀ ++ k₁) k₂ (k₃ ++ ks) ∙ append_assoc k₀ k₁ (k₂ ++ (k₃ ++ ks)))

line_run_lem : (i : ℕ) (t : Spelling) → good t ≡ true → Over i nothing Front (print t) (means_at i t).residues (means_at i t).brackets
line_run_lem i t whole =
    let o = every good_declaration t.declarations in
    let a = every good_run t.runs in
    let b = good_curlies t.labiles in
    let c = good_squares true t.front in
    let d = every good_element (elements t) in
    let e = good_squares true t.back in
    let g : (a && (b && (c && (d && e)))) ≡ true = and_right o (a && (b && (c && (d && e)))) whole in
    let g₁ : (b && (c && (d && e))) ≡ true = and_right a (b && (c && (d && e))) g in
    let g₂ : (c && (d && e)) ≡ true = and_right b (c && (d && e)) g₁ in
    let g₃ : (d && e) ≡ true = and_right c (d && e) g₂ in
    let k₀ : Brackets = means_declarations i t.declarations in
    let k₁ : Brackets = each_along print_run means_run (at_runs i t) t.runs in
    let k₂ : Brackets = means_curlies (at_labiles i t) t.labiles in
    let k₃ : Brackets = means_squares NTerm 0 0 (at_front i t) t.front in
    let n = declarations_run i t.declarations [] (and_left o (a && (b && (c && (d && e)))) whole) in
    let u = runs_run (at_runs i t) t.runs Front k₀ at_first (and_left a (b && (c && (d && e))) g) in
    let p = curlies_run (at_labiles i t) t.labiles u.mode (k₀ ++ k₁) u.front (and_left b (c && (d && e)) g₁) in
    let j = front_run (at_front i t) t.front p.mode ((k₀ ++ k₁) ++ k₂) p.fronts (and_left c (d && e) g₂) in
    let q = sequence_run (at_sequence i t) t.first t.more t.back j.mode (((k₀ ++ k₁) ++ k₂) ++ k₃) 0 j.begins (and_left d e g₃) (and_right d e g₃) in
    record {
      mode = q.mode;
      first = q.first;
      ends = q.ends;
      path =
          line_further i (flat print_declaration t.declarations) _ (outside Front nothing) (outside Front (leading k₀ [])) _ n
          (whole_run (at_runs i t) (flat print_run t.runs) (flat print_curly t.labiles) (print_front t.front) (flat print_element (elements t) ++ print_back t.back) k₀ k₁ k₂ k₃
          (brackets_along 0 (at_sequence i t) (elements t) ++ back_of i t) (residues_of i t) u.mode p.mode j.mode q.mode q.first
          u.path p.path j.path q.path);
    }

-- what a good spelling prints is read to what it means, with every place
pub line_read : (t : Spelling) → good t ≡ true → reading (print t) ≡ holds (means t)
unfolding reading
line_read t g = let q = line_run_lem 0 t g in ap (ended (length (print t))) q.path ∙ pick_true (may_end q.mode) _ _ q.ends
