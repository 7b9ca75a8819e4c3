-- From the reader to trees: a line that the reader accepts is printed by a good spelling.
use Rattle.std.specs.Prelude.{ℕ, zero, suc, ◌≤◌, ◌≡◌, refl, Bool, false, cond, List, [], ◌∷◌, ◌++◌, eqb, length}
use Rattle.std.proofs.Common.{arith, sym, ◌∙◌, subst, true≢false, append_assoc, append-nil, length-append, eqb-true, eq-eqb}
use Rattle.std.proofs.Math.Path.{ap}
use Rattle.std.proofs.Math.Bool.{true}
use Rattle.std.proofs.lemmas.Bool.{false≢true}
use Rattle.std.proofs.Math.Option.{Option, none, some, none-ne-some}
use Rattle.scope.specs.declared.grammar.Section.{Section}
use Rattle.scope.specs.declared.grammar.Section.TheVariants.{RangeNext, UnsureNext}
use Rattle.scope.specs.declared.grammar.Kind.{Kind}
use Rattle.scope.specs.declared.grammar.Kind.TheVariants.{Unknown, NTerm, OnResidue, OnRange, CTerm}
use Rattle.scope.specs.declared.grammar.Mode.{Mode}
use Rattle.scope.specs.declared.grammar.Mode.TheVariants.{Front, Angle, Tagged, Listed, Runs, Undecided, Counted, Referred, Caret, Counting, Labiles, NTerms, Start, Single, Opened, UnsureOpened, InRange, InUnsure, RangeEnd, Ranged, UnsureEnd, CStart, CTerms}
use Rattle.scope.specs.declared.grammar.Slot.{Slot}
use Rattle.scope.specs.declared.grammar.Act.{Act}
use Rattle.scope.specs.declared.grammar.Act.TheVariants.{Stop, Go, Residue as a_residue, Begin, Digit, RunEnds, TermEnds, Places}
use Rattle.scope.specs.Bytes.{bytes, upper, is_letter, is_digit, same_folded, open_square, shut_square, open_curly, open_round, shut_round, open_angle, shut_angle, at_sign, caret, question, dash, comma}
use Rattle.scope.specs.Content.{begin, Inner, Content, lost, closed, going, inner_step}
use Rattle.scope.specs.Reading.{square, front, labile, declared, at_front, element, further, group_first, in_group, undecided, counted, referred, act, may_end, Held, with_residue, with_bracket, with_digit, as_nTerm, settled_run, State, dead, outside, inside, placing, perform, refers?, mode_after, resume, step, start, line_of}
use Rattle.scope.specs.Line.{Place as Site}
use Rattle.scope.specs.Places.{Placing, expected, placed, owing, owed, terminus_of}
use Rattle.reading_laws.proofs.Run.{told}
use Rattle.reading_laws.proofs.Listed.{PlaceOn, place_begins, place_over, word_begins, word_on, PlacesGo, places_on, places_over, places_stop, places_go}
use Rattle.reading_laws.proofs.Unnoted.{Place, Parts, context, content_run, line_run, line_nil, line_cons, same_mode, content_cons, content_nil}
use Rattle.basics.specs.Tests.{both}
use Rattle.reading_laws.proofs.Acts.{Ending, single_ends, ranged_ends, unsure_ends, cterms_end, ending}
use Rattle.scope.specs.Lists.{there?, all as every, flat}
use Rattle.scope.specs.Grammar.{some_of, Inside, parts, refers, print_inside, good_inside, print_square, print_curly, print_squares, good_squares, good_curlies, Target, a_letter, a_terminus, print_target, good_target, print_targets, Declaration, print_declaration, good_declaration, Marked, print_count, good_count, print_marked, good_marked, Run, print_run, good_run, Spot, Element, single, range, unsure, print_spot, print_element, good_spot, good_element, Spelling, elements, print_front, print_back, print, good}
use Rattle.grammar_laws.proofs.Bare.{bare_inside}
use Rattle.grammar_laws.proofs.Spelled.{closed_spelled}
use Rattle.grammar_laws.proofs.Targets.{terminus_good, no_word, print_more, print_targets_lem}
use Rattle.basics.specs.Lists.{flat_cons, flat_nil}

-- ---- what is left of a line, by the mode in which it is left
pub record Squares (r : Bool) (T : List ℕ → Type 0) (l : List ℕ) : Type 0 where
  pub brackets : List Inside
  pub good : good_squares r brackets ≡ true
  pub rest : List ℕ
  pub all : l ≡ print_squares brackets ++ rest
  pub then : T rest

pub record SomeSquares (r : Bool) (T : List ℕ → Type 0) (l : List ℕ) : Type 0 where
  pub one : Inside
  pub more : List Inside
  pub good : good_squares r (one ∷ more) ≡ true
  pub rest : List ℕ
  pub all : l ≡ print_squares (one ∷ more) ++ rest
  pub then : T rest

abbrev Empty : List ℕ → Type 0
Empty l = l ≡ []

-- further elements, and the C-terminus
pub record Tail (l : List ℕ) : Type 0 where
  pub elems : List Element
  pub good : every good_element elems ≡ true
  pub back : List Inside
  pub good_back : good_squares true back ≡ true
  pub all : l ≡ flat print_element elems ++ print_back back

pub record Sequence (l : List ℕ) : Type 0 where
  pub first : Element
  pub good : good_element first ≡ true
  pub rest : List ℕ
  pub all : l ≡ print_element first ++ rest
  pub then : Tail rest

pub record Spots (T : List ℕ → Type 0) (l : List ℕ) : Type 0 where
  pub spots : List Spot
  pub good : every good_spot spots ≡ true
  pub rest : List ℕ
  pub all : l ≡ flat print_spot spots ++ (shut_round ∷ rest)
  pub then : T rest

pub record Dashed (l : List ℕ) : Type 0 where
  pub rest : List ℕ
  pub all : l ≡ dash ∷ rest
  pub then : Sequence rest

pub record Curlies (l : List ℕ) : Type 0 where
  pub labiles : List Inside
  pub good : good_curlies labiles ≡ true
  pub front : List Inside
  pub good_front : good_squares true front ≡ true
  pub rest : List ℕ
  pub all : l ≡ flat print_curly labiles ++ (print_front front ++ rest)
  pub then : Sequence rest

pub record LineWhole (l : List ℕ) : Type 0 where
  pub runs : List Run
  pub good : every good_run runs ≡ true
  pub rest : List ℕ
  pub all : l ≡ flat print_run runs ++ rest
  pub then : Curlies rest

-- the rest of a run, from further brackets on
pub record Marks (l : List ℕ) : Type 0 where
  pub marked : List Marked
  pub good : every good_marked marked ≡ true
  pub rest : List ℕ
  pub all : l ≡ flat print_marked marked ++ (question ∷ rest)
  pub then : LineWhole rest

pub record Counts (l : List ℕ) : Type 0 where
  pub count : Option (List ℕ)
  pub good : good_count count ≡ true
  pub rest : List ℕ
  pub all : l ≡ print_count count ++ rest
  pub then : Marks rest

pub record DigitsLeft (l : List ℕ) : Type 0 where
  pub bytes : List ℕ
  pub good : every is_digit bytes ≡ true
  pub rest : List ℕ
  pub all : l ≡ bytes ++ rest
  pub then : Marks rest

pub record SomeDigits (l : List ℕ) : Type 0 where
  pub bytes : List ℕ
  pub good : some_of is_digit bytes ≡ true
  pub rest : List ℕ
  pub all : l ≡ bytes ++ rest
  pub then : Marks rest

pub data Either (l : List ℕ) : Type 0 where
  in_run : Counts l → Either l
  in_front_lem : Squares true Dashed l → Either l

-- ---- declarations, and what stands behind them
pub record Declares (l : List ℕ) : Type 0 where
  pub declarations : List Declaration
  pub good : every good_declaration declarations ≡ true
  pub rest : List ℕ
  pub all : l ≡ flat print_declaration declarations ++ rest
  pub then : LineWhole rest

-- the places of a declaration, its `>` and what stands behind it; the same behind a place
pub record Targets (l : List ℕ) : Type 0 where
  pub first : Target
  pub more : List Target
  pub good : every good_target (first ∷ more) ≡ true
  pub rest : List ℕ
  pub all : l ≡ print_targets first more ++ (shut_angle ∷ rest)
  pub then : Declares rest

pub record MoreTargets (l : List ℕ) : Type 0 where
  pub more : List Target
  pub good : every good_target more ≡ true
  pub rest : List ℕ
  pub all : l ≡ print_more more ++ (shut_angle ∷ rest)
  pub then : Declares rest

-- the bytes w in either case, and the same behind them
pub record Owed (w l : List ℕ) : Type 0 where
  pub spelled : List ℕ
  pub good : same_folded w spelled ≡ true
  pub rest : List ℕ
  pub all : l ≡ spelled ++ rest
  pub then : MoreTargets rest

-- behind the letter c, which is a place or begins the word of a terminus
pub data Lettered (c : ℕ) (l : List ℕ) : Type 0 where
  as_letter : MoreTargets l → Lettered c l
  as_word : (s : ℕ) → terminus_of c ≡ some s → Owed (dash ∷ bytes "term") l → Lettered c l

-- behind `<`; behind its bracket; behind its places
pub record Angled (l : List ℕ) : Type 0 where
  pub tree : Declaration
  pub good : good_declaration tree ≡ true
  pub rest : List ℕ
  pub all : open_angle ∷ l ≡ print_declaration tree ++ rest
  pub then : Declares rest

pub record At (l : List ℕ) : Type 0 where
  pub rest : List ℕ
  pub all : l ≡ at_sign ∷ rest
  pub then : Targets rest

pub record Shut (l : List ℕ) : Type 0 where
  pub rest : List ℕ
  pub all : l ≡ shut_angle ∷ rest
  pub then : Declares rest

abbrev Left : Mode → List ℕ → Type 0
Left Front l = Declares l
Left Angle l = Angled l
Left Tagged l = At l
Left Listed l = Shut l
Left Runs l = LineWhole l
Left Undecided l = Either l
Left Counted l = Counts l
Left Referred l = Squares true Dashed l
Left Caret l = SomeDigits l
Left Counting l = DigitsLeft l
Left Labiles l = Curlies l
Left NTerms l = Squares true Dashed l
Left Start l = Sequence l
Left Single l = Squares true Tail l
Left Opened l = Sequence (open_round ∷ l)
Left UnsureOpened l = Sequence (open_round ∷ (question ∷ l))
Left InRange l = Squares true (Spots (SomeSquares false Tail)) l
Left InUnsure l = Squares true (Spots Tail) l
Left RangeEnd l = SomeSquares false Tail l
Left Ranged l = Squares false Tail l
Left UnsureEnd l = Tail l
Left CStart l = SomeSquares true Empty l
Left CTerms l = Squares true Empty l

-- ---- what a byte leaves, by what it does
record ByteTaken (s : Slot) (l : List ℕ) : Type 0 where
  pub tree : Inside
  pub good : good_inside s.refers s.labels tree ≡ true
  pub rest : List ℕ
  pub all : l ≡ (print_inside tree ++ (s.shut ∷ [])) ++ rest
  pub then : Left (mode_after s (bare_inside tree)) rest

After : Act → List ℕ → Type 0
After Stop l = ⊥
After (Go m) l = Left m l
After (a_residue s m) l = Left m l
After (Begin s) l = ByteTaken s l
After Digit l = Left Counting l
After RunEnds l = Left Runs l
After TermEnds l = Left Start l
After Places l = Targets l

by : {G : Type 0} (t : Bool) (x y : Act) (l : List ℕ) → After (cond t x y) l → (t ≡ true → After x l → G) → (t ≡ false → After y l → G) → G
by true x y l a f g = f refl a
by false x y l a f g = g refl a

every_cons : {A : Type 0} (f : A → Bool) (x : A) (l : List A) → f x ≡ true → every f l ≡ true → every f (x ∷ l) ≡ true
unfolding every
every_cons f x l e g = both (f x) (every f l) e g

every_nil : {A : Type 0} (f : A → Bool) → every f [] ≡ true
unfolding every
every_nil f = refl

-- one text more in front
each_front : {A : Type 0} (f : A → List ℕ) (x : A) (xs : List A) (l v w : List ℕ) → l ≡ f x ++ v → v ≡ flat f xs ++ w → l ≡ flat f (x ∷ xs) ++ w
each_front f x xs l v w e g = e ∙ ap (λ z. f x ++ z) g ∙ sym (append_assoc (f x) (flat f xs) w) ∙ ap (λ z. z ++ w) (sym (flat_cons f x xs))

each_none : {A : Type 0} (f : A → List ℕ) (l : List ℕ) → l ≡ flat f [] ++ l
each_none f l = ap (λ z. z ++ l) (sym (flat_nil f))

-- ---- squares
no_squares : (r : Bool) (T : List ℕ → Type 0) (l : List ℕ) → T l → Squares r T l
no_squares r T l t = record { brackets = []; good = every_nil (good_inside r true); rest = l; all = each_none print_square l; then = t }

square_bytes : (b : ℕ) (x : Inside) (l v : List ℕ) → b ≡ open_square → l ≡ (print_inside x ++ (shut_square ∷ [])) ++ v → b ∷ l ≡ print_square x ++ v
square_bytes b x l v e g = ap (λ z. z ∷ l) e ∙ ap (λ z. open_square ∷ z) g

squares_cons : (r : Bool) (T : List ℕ → Type 0) (b : ℕ) (x : Inside) (l v : List ℕ) → b ≡ open_square → good_inside r true x ≡ true → l ≡ (print_inside x ++ (shut_square ∷ [])) ++ v → Squares r T v → Squares r T (b ∷ l)
squares_cons r T b x l v e g a w =
    record {
      brackets = x ∷ w.brackets;
      good = every_cons (good_inside r true) x w.brackets g w.good;
      rest = w.rest;
      all = each_front print_square x w.brackets (b ∷ l) v w.rest (square_bytes b x l v e a) w.all;
      then = w.then;
    }

some_squares : (r : Bool) (T : List ℕ → Type 0) (b : ℕ) (x : Inside) (l v : List ℕ) → b ≡ open_square → good_inside r true x ≡ true → l ≡ (print_inside x ++ (shut_square ∷ [])) ++ v → Squares r T v → SomeSquares r T (b ∷ l)
some_squares r T b x l v e g a w =
    record {
      one = x;
      more = w.brackets;
      good = every_cons (good_inside r true) x w.brackets g w.good;
      rest = w.rest;
      all = each_front print_square x w.brackets (b ∷ l) v w.rest (square_bytes b x l v e a) w.all;
      then = w.then;
    }

-- a bracket whose mode does not ask for a reference
same_left : (k : Kind) (r : Bool) (m : Mode) (l : List ℕ) (w : ByteTaken (square k r m) l) → Left m w.rest
same_left k r m l w = subst (λ (z : Mode). Left z w.rest) (same_mode (bare_inside w.tree) m) w.then

-- ---- elements
element_left : (b : ℕ) (l : List ℕ) → After (element b) l → Sequence (b ∷ l)
unfolding element After
element_left b l a =
    by (is_letter b) _ _ l a
    (λ e (w : Squares true Tail l). record {
      first = single (record { letter = b; brackets = w.brackets });
      good = both (is_letter b) (good_squares true w.brackets) e w.good;
      rest = w.rest;
      all = ap (λ z. b ∷ z) w.all;
      then = w.then;
    })
    (λ e c. by (eqb b open_round) _ _ l c (λ f w. subst (λ (z : ℕ). Sequence (z ∷ l)) (sym (eqb-true b open_round f)) w) (λ f w. absurd w))

tail_of : (l : List ℕ) → Sequence l → Tail l
tail_of l w =
    record {
      elems = w.first ∷ w.then.elems;
      good = every_cons good_element w.first w.then.elems w.good w.then.good;
      back = w.then.back;
      good_back = w.then.good_back;
      all = each_front print_element w.first w.then.elems l w.rest (print_back w.then.back) w.all w.then.all;
    }

further_left : (b : ℕ) (l : List ℕ) → After (further b) l → Tail (b ∷ l)
unfolding further After
further_left b l a =
    by (eqb b dash) _ _ l a
    (λ e (w : SomeSquares true Empty l). record {
      elems = [];
      good = every_nil good_element;
      back = w.one ∷ w.more;
      good_back = w.good;
      all = ap (λ z. z ∷ l) (eqb-true b dash e) ∙ ap (λ z. dash ∷ z) (w.all ∙ ap (λ z. print_squares (w.one ∷ w.more) ++ z) w.then ∙ append-nil (print_squares (w.one ∷ w.more))) ∙ each_none print_element _;
    })
    (λ e c. tail_of (b ∷ l) (element_left b l c))

-- ---- each mode, one byte earlier: the sequence
single_left : (b : ℕ) (l : List ℕ) → After (act Single b) l → Squares true Tail (b ∷ l)
unfolding act After
single_left b l a =
    by (eqb b open_square) _ _ l a
    (λ e (w : ByteTaken (square OnResidue true Single) l). squares_cons true Tail b w.tree l w.rest (eqb-true b open_square e) w.good w.all (same_left OnResidue true Single l w))
    (λ e c. no_squares true Tail (b ∷ l) (further_left b l c))

ranged_left : (b : ℕ) (l : List ℕ) → After (act Ranged b) l → Squares false Tail (b ∷ l)
unfolding act After
ranged_left b l a =
    by (eqb b open_square) _ _ l a
    (λ e (w : ByteTaken (square OnRange false Ranged) l). squares_cons false Tail b w.tree l w.rest (eqb-true b open_square e) w.good w.all (same_left OnRange false Ranged l w))
    (λ e c. no_squares false Tail (b ∷ l) (further_left b l c))

range_end_left : (b : ℕ) (l : List ℕ) → After (act RangeEnd b) l → SomeSquares false Tail (b ∷ l)
unfolding act After
range_end_left b l a =
    by (eqb b open_square) _ _ l a
    (λ e (w : ByteTaken (square OnRange false Ranged) l). some_squares false Tail b w.tree l w.rest (eqb-true b open_square e) w.good w.all (same_left OnRange false Ranged l w))
    (λ e c. absurd c)

cterms_left : (b : ℕ) (l : List ℕ) → After (act CTerms b) l → Squares true Empty (b ∷ l)
unfolding act After
cterms_left b l a =
    by (eqb b open_square) _ _ l a
    (λ e (w : ByteTaken (square CTerm true CTerms) l). squares_cons true Empty b w.tree l w.rest (eqb-true b open_square e) w.good w.all (same_left CTerm true CTerms l w))
    (λ e c. absurd c)

cstart_left : (b : ℕ) (l : List ℕ) → After (act CStart b) l → SomeSquares true Empty (b ∷ l)
unfolding act After
cstart_left b l a =
    by (eqb b open_square) _ _ l a
    (λ e (w : ByteTaken (square CTerm true CTerms) l). some_squares true Empty b w.tree l w.rest (eqb-true b open_square e) w.good w.all (same_left CTerm true CTerms l w))
    (λ e c. absurd c)

-- a residue of a group in front
spot_cons : (T : List ℕ → Type 0) (b : ℕ) (l : List ℕ) → is_letter b ≡ true → Squares true (Spots T) l → Spots T (b ∷ l)
spot_cons T b l e w =
    let s : Spot = record { letter = b; brackets = w.brackets } in
    record {
      spots = s ∷ w.then.spots;
      good = every_cons good_spot s w.then.spots (both (is_letter b) (good_squares true w.brackets) e w.good) w.then.good;
      rest = w.then.rest;
      all = each_front print_spot s w.then.spots (b ∷ l) w.rest (shut_round ∷ w.then.rest) (ap (λ z. b ∷ z) w.all) w.then.all;
      then = w.then.then;
    }

module _ (c : Section) (m end : Mode) (T : List ℕ → Type 0) (self : (l : List ℕ) → Left m l → Squares true (Spots T) l) (over : (l : List ℕ) → Left end l → T l) where
  group_left : (b : ℕ) (l : List ℕ) → After (in_group c m end b) l → Squares true (Spots T) (b ∷ l)
  unfolding in_group After
  group_left b l a =
      by (is_letter b) _ _ l a (λ e w. no_squares true (Spots T) (b ∷ l) (spot_cons T b l e (self l w)))
      (λ e d.
      by (eqb b open_square) _ _ l d
      (λ f (w : ByteTaken (square OnResidue true m) l). squares_cons true (Spots T) b w.tree l w.rest (eqb-true b open_square f) w.good w.all (self w.rest (same_left OnResidue true m l w)))
      (λ f d'.
      by (eqb b shut_round) _ _ l d'
      (λ g w. no_squares true (Spots T) (b ∷ l) (record { spots = []; good = every_nil good_spot; rest = l; all = ap (λ z. z ∷ l) (eqb-true b shut_round g) ∙ each_none print_spot _; then = over l w }))
      (λ g w. absurd w)))

range_left : (b : ℕ) (l : List ℕ) → After (act InRange b) l → Squares true (Spots (SomeSquares false Tail)) (b ∷ l)
unfolding act
range_left b l a = group_left RangeNext InRange RangeEnd (SomeSquares false Tail) (λ l w. w) (λ l w. w) b l a

in_unsure_left : (b : ℕ) (l : List ℕ) → After (act InUnsure b) l → Squares true (Spots Tail) (b ∷ l)
unfolding act
in_unsure_left b l a = group_left UnsureNext InUnsure UnsureEnd Tail (λ l w. w) (λ l w. w) b l a

group_all : (x y z : List ℕ) → x ++ (shut_round ∷ (y ++ z)) ≡ (x ++ (shut_round ∷ y)) ++ z
group_all x y z = sym (append_assoc x (shut_round ∷ y) z)

made_range : (b : ℕ) (l : List ℕ) → is_letter b ≡ true → Squares true (Spots (SomeSquares false Tail)) l → Sequence (open_round ∷ (b ∷ l))
made_range b l e w =
    let s : Spot = record { letter = b; brackets = w.brackets } in
    let u = w.then in
    let v = u.then in
    let i = spot_cons (SomeSquares false Tail) b l e w in
    record {
      first = range s u.spots v.one v.more;
      good = both (every good_spot (s ∷ u.spots)) (good_squares false (v.one ∷ v.more)) (every_cons good_spot s u.spots (both (is_letter b) (good_squares true w.brackets) e w.good) u.good) v.good;
      rest = v.rest;
      all =
          ap (λ z. open_round ∷ z)
          (each_front print_spot s u.spots (b ∷ l) w.rest (shut_round ∷ u.rest) (ap (λ z. b ∷ z) w.all) u.all
          ∙ ap (λ z. flat print_spot (s ∷ u.spots) ++ (shut_round ∷ z)) v.all
          ∙ group_all (flat print_spot (s ∷ u.spots)) (print_squares (v.one ∷ v.more)) v.rest);
      then = v.then;
    }

made_unsure : (b : ℕ) (l : List ℕ) → is_letter b ≡ true → Squares true (Spots Tail) l → Sequence (open_round ∷ (question ∷ (b ∷ l)))
made_unsure b l e w =
    let s : Spot = record { letter = b; brackets = w.brackets } in
    let u = w.then in
    record {
      first = unsure s u.spots;
      good = every_cons good_spot s u.spots (both (is_letter b) (good_squares true w.brackets) e w.good) u.good;
      rest = u.rest;
      all =
          ap (λ z. open_round ∷ (question ∷ z))
          (each_front print_spot s u.spots (b ∷ l) w.rest (shut_round ∷ u.rest) (ap (λ z. b ∷ z) w.all) u.all
          ∙ group_all (flat print_spot (s ∷ u.spots)) [] u.rest);
      then = u.then;
    }

unsure_opened_left : (b : ℕ) (l : List ℕ) → After (act UnsureOpened b) l → Sequence (open_round ∷ (question ∷ (b ∷ l)))
unfolding act group_first After
unsure_opened_left b l a = by (is_letter b) _ _ l a (λ e w. made_unsure b l e w) (λ e w. absurd w)

opened_left : (b : ℕ) (l : List ℕ) → After (act Opened b) l → Sequence (open_round ∷ (b ∷ l))
unfolding act group_first After
opened_left b l a =
    by (eqb b question) _ _ l a (λ e w. subst (λ (z : ℕ). Sequence (open_round ∷ (z ∷ l))) (sym (eqb-true b question e)) w)
    (λ e c. by (is_letter b) _ _ l c (λ f w. made_range b l f w) (λ f w. absurd w))

-- ---- the N-terminus and labile brackets
dashed : (b : ℕ) (l : List ℕ) → b ≡ dash → Sequence l → Squares true Dashed (b ∷ l)
dashed b l e w = no_squares true Dashed (b ∷ l) (record { rest = l; all = ap (λ z. z ∷ l) e; then = w })

nterms_left : (b : ℕ) (l : List ℕ) → After (act NTerms b) l → Squares true Dashed (b ∷ l)
unfolding act After
nterms_left b l a =
    by (eqb b open_square) _ _ l a
    (λ e (w : ByteTaken (square NTerm true NTerms) l). squares_cons true Dashed b w.tree l w.rest (eqb-true b open_square e) w.good w.all (same_left NTerm true NTerms l w))
    (λ e c. by (eqb b dash) _ _ l c (λ f w. dashed b l (eqb-true b dash f) w) (λ f w. absurd w))

referred_left : (b : ℕ) (l : List ℕ) → After (act Referred b) l → Squares true Dashed (b ∷ l)
unfolding act referred After
referred_left b l a =
    by (eqb b open_square) _ _ l a
    (λ e (w : ByteTaken (square Unknown true Referred) l). squares_cons true Dashed b w.tree l w.rest (eqb-true b open_square e) w.good w.all (same_left Unknown true Referred l w))
    (λ e c. by (eqb b dash) _ _ l c (λ f w. dashed b l (eqb-true b dash f) w) (λ f w. absurd w))

no_curlies : (l : List ℕ) → Sequence l → Curlies l
no_curlies l w = record { labiles = []; good = every_nil (good_inside false false); front = []; good_front = every_nil (good_inside true true); rest = l; all = each_none print_curly l; then = w }

-- N-terminal brackets, the first of which begins here
fronted : (b : ℕ) (x : Inside) (l v : List ℕ) → b ≡ open_square → good_inside true true x ≡ true → l ≡ (print_inside x ++ (shut_square ∷ [])) ++ v → Squares true Dashed v → Curlies (b ∷ l)
fronted b x l v e g a w =
    let d = w.then in
    record {
      labiles = [];
      good = every_nil (good_inside false false);
      front = x ∷ w.brackets;
      good_front = every_cons (good_inside true true) x w.brackets g w.good;
      rest = d.rest;
      all =
          each_front print_square x w.brackets (b ∷ l) v w.rest (square_bytes b x l v e a) w.all
          ∙ ap (λ z. print_squares (x ∷ w.brackets) ++ z) d.all
          ∙ sym (append_assoc (print_squares (x ∷ w.brackets)) (dash ∷ []) d.rest)
          ∙ each_none print_curly _;
      then = d.then;
    }

curly_cons : (b : ℕ) (l : List ℕ) → b ≡ open_curly → ByteTaken labile l → Curlies (b ∷ l)
curly_cons b l e w =
    let c : Curlies w.rest = subst (λ (z : Mode). Left z w.rest) (same_mode (bare_inside w.tree) Labiles) w.then in
    record {
      labiles = w.tree ∷ c.labiles;
      good = every_cons (good_inside false false) w.tree c.labiles w.good c.good;
      front = c.front;
      good_front = c.good_front;
      rest = c.rest;
      all = each_front print_curly w.tree c.labiles (b ∷ l) w.rest (print_front c.front ++ c.rest) (ap (λ z. z ∷ l) e ∙ ap (λ z. open_curly ∷ z) w.all) c.all;
      then = c.then;
    }

labiles_left : (b : ℕ) (l : List ℕ) → After (act Labiles b) l → Curlies (b ∷ l)
unfolding act After
labiles_left b l a =
    by (eqb b open_curly) _ _ l a (λ e (w : ByteTaken labile l). curly_cons b l (eqb-true b open_curly e) w)
    (λ e c.
    by (eqb b open_square) _ _ l c
    (λ f (w : ByteTaken (square NTerm true NTerms) l). fronted b w.tree l w.rest (eqb-true b open_square f) w.good w.all (same_left NTerm true NTerms l w))
    (λ f d. no_curlies (b ∷ l) (element_left b l d)))

-- ---- runs
run_over : (b : ℕ) (l : List ℕ) → b ≡ question → LineWhole l → Marks (b ∷ l)
run_over b l e w = record { marked = []; good = every_nil good_marked; rest = l; all = ap (λ z. z ∷ l) e ∙ each_none print_marked _; then = w }

mark_cons : (b : ℕ) (x : Inside) (l v : List ℕ) → b ≡ open_square → good_inside false true x ≡ true → l ≡ (print_inside x ++ (shut_square ∷ [])) ++ v → Counts v → Marks (b ∷ l)
mark_cons b x l v e g a w =
    let k : Marked = record { inside = x; count = w.count } in
    let n = w.then in
    record {
      marked = k ∷ n.marked;
      good = every_cons good_marked k n.marked (both (good_inside false true x) (good_count w.count) g w.good) n.good;
      rest = n.rest;
      all = each_front print_marked k n.marked (b ∷ l) w.rest (question ∷ n.rest) (square_bytes b x l v e a ∙ ap (λ z. print_square x ++ z) w.all ∙ sym (append_assoc (print_square x) (print_count w.count) w.rest)) n.all;
      then = n.then;
    }

uncounted : (l : List ℕ) → Marks l → Counts l
uncounted l w = record { count = none; good = refl; rest = l; all = refl; then = w }

counts : (b : ℕ) (l : List ℕ) → b ≡ caret → SomeDigits l → Counts (b ∷ l)
counts b l e w = record { count = some w.bytes; good = w.good; rest = w.rest; all = ap (λ z. z ∷ l) e ∙ ap (λ z. caret ∷ z) w.all; then = w.then }

marks_left : (b : ℕ) (l : List ℕ) → After (counted b) l → Marks (b ∷ l)
unfolding counted After
marks_left b l a =
    by (eqb b open_square) _ _ l a
    (λ e (w : ByteTaken (square Unknown false Counted) l). mark_cons b w.tree l w.rest (eqb-true b open_square e) w.good w.all (same_left Unknown false Counted l w))
    (λ e c. by (eqb b question) _ _ l c (λ f w. run_over b l (eqb-true b question f) w) (λ f w. absurd w))

counted_left : (b : ℕ) (l : List ℕ) → After (act Counted b) l → Counts (b ∷ l)
unfolding act After
counted_left b l a = by (eqb b caret) _ _ l a (λ e w. counts b l (eqb-true b caret e) w) (λ e c. uncounted (b ∷ l) (marks_left b l c))

counting_left : (b : ℕ) (l : List ℕ) → After (act Counting b) l → DigitsLeft (b ∷ l)
unfolding act After every
counting_left b l a =
    by (is_digit b) _ _ l a
    (λ e (w : DigitsLeft l). record { bytes = b ∷ w.bytes; good = both (is_digit b) (every is_digit w.bytes) e w.good; rest = w.rest; all = ap (λ z. b ∷ z) w.all; then = w.then })
    (λ e c. record { bytes = []; good = refl; rest = b ∷ l; all = refl; then = marks_left b l c })

caret_left : (b : ℕ) (l : List ℕ) → After (act Caret b) l → SomeDigits (b ∷ l)
unfolding act After every
caret_left b l a =
    by (is_digit b) _ _ l a
    (λ e (w : DigitsLeft l). record { bytes = b ∷ w.bytes; good = both (is_digit b) (every is_digit w.bytes) e w.good; rest = w.rest; all = ap (λ z. b ∷ z) w.all; then = w.then })
    (λ e w. absurd w)

-- ---- the front
no_tag : (x : Inside) → refers? (bare_inside x) ≡ false → good_inside true true x ≡ true → good_inside false true x ≡ true
no_tag (parts p ps) e g = g
no_tag (refers t) e g = absurd (true≢false e)

-- a bracket at the front: its kind is open, or it is a reference
pub data Opening (b : ℕ) (l : List ℕ) : Type 0 where
  as_run : Marks (b ∷ l) → Opening b l
  as_front : (x : Inside) (v : List ℕ) → good_inside true true x ≡ true → l ≡ (print_inside x ++ (shut_square ∷ [])) ++ v → Squares true Dashed v → Opening b l

opening : (b : ℕ) (l : List ℕ) → b ≡ open_square → ByteTaken front l → Opening b l
opening b l e w = go (refers? (bare_inside w.tree)) refl w.then
  where
    either : refers? (bare_inside w.tree) ≡ false → Either w.rest → Opening b l
    either f (in_run c) = as_run (mark_cons b w.tree l w.rest e (no_tag w.tree f w.good) w.all c)
    either f (in_front_lem s) = as_front w.tree w.rest w.good w.all s

    go : (t : Bool) → refers? (bare_inside w.tree) ≡ t → Left (cond t Referred Undecided) w.rest → Opening b l
    go true f s = as_front w.tree w.rest w.good w.all s
    go false f s = either f s

opening_either : (b : ℕ) (l : List ℕ) → b ≡ open_square → Opening b l → Either (b ∷ l)
opening_either b l e (as_run m) = in_run (uncounted (b ∷ l) m)
opening_either b l e (as_front x v g a s) = in_front_lem (squares_cons true Dashed b x l v e g a s)

undecided_left : (b : ℕ) (l : List ℕ) → After (act Undecided b) l → Either (b ∷ l)
unfolding act undecided After
undecided_left b l a =
    by (eqb b caret) _ _ l a (λ e w. in_run (counts b l (eqb-true b caret e) w))
    (λ e c.
    by (eqb b open_square) _ _ l c (λ f (w : ByteTaken front l). opening_either b l (eqb-true b open_square f) (opening b l (eqb-true b open_square f) w))
    (λ f d.
    by (eqb b question) _ _ l d (λ g w. in_run (uncounted (b ∷ l) (run_over b l (eqb-true b question g) w)))
    (λ g d'. by (eqb b dash) _ _ l d' (λ h w. in_front_lem (dashed b l (eqb-true b dash h) w)) (λ h w. absurd w))))

no_runs : (l : List ℕ) → Curlies l → LineWhole l
no_runs l w = record { runs = []; good = every_nil good_run; rest = l; all = each_none print_run l; then = w }

head_of : List ℕ → ℕ
head_of [] = 0
head_of (b ∷ l) = b

-- a run that a bracket begins
runs_cons : (b : ℕ) (l : List ℕ) → b ≡ open_square → Marks (b ∷ l) → LineWhole (b ∷ l)
unfolding head_of
runs_cons b l e w = go w.marked w.good w.all
  where
    go : (ms : List Marked) → every good_marked ms ≡ true → b ∷ l ≡ flat print_marked ms ++ (question ∷ w.rest) → LineWhole (b ∷ l)
    go [] g a =
        let z : b ≡ question = ap head_of (a ∙ ap (λ v. v ++ (question ∷ w.rest)) (flat_nil print_marked)) in
        absurd (omega arith)
    go (k ∷ ms) g a =
        let r : Run = record { first = k; more = ms } in
        let t = w.then in
        record {
          runs = r ∷ t.runs;
          good = every_cons good_run r t.runs g t.good;
          rest = t.rest;
          all = each_front print_run r t.runs (b ∷ l) w.rest t.rest (a ∙ sym (append_assoc (flat print_marked (k ∷ ms)) (question ∷ []) w.rest)) t.all;
          then = t.then;
        }

opening_whole : (b : ℕ) (l : List ℕ) → b ≡ open_square → Opening b l → LineWhole (b ∷ l)
opening_whole b l e (as_run m) = runs_cons b l e m
opening_whole b l e (as_front x v g a s) = no_runs (b ∷ l) (fronted b x l v e g a s)

front_left : (b : ℕ) (l : List ℕ) → After (at_front b) l → LineWhole (b ∷ l)
unfolding After
front_left b l a =
    by (eqb b open_square) _ _ l a (λ e (w : ByteTaken front l). opening_whole b l (eqb-true b open_square e) (opening b l (eqb-true b open_square e) w))
    (λ e c.
    by (eqb b open_curly) _ _ l c (λ f (w : ByteTaken labile l). no_runs (b ∷ l) (curly_cons b l (eqb-true b open_curly f) w))
    (λ f d. no_runs (b ∷ l) (no_curlies (b ∷ l) (element_left b l d))))

-- ---- declarations
no_declarations : (l : List ℕ) → LineWhole l → Declares l
no_declarations l w = record { declarations = []; good = every_nil good_declaration; rest = l; all = each_none print_declaration l; then = w }

declares_left : (b : ℕ) (l : List ℕ) → After (act Front b) l → Declares (b ∷ l)
unfolding act After
declares_left b l a =
    by (eqb b open_angle) _ _ l a
    (λ e (w : Angled l). record {
      declarations = w.tree ∷ w.then.declarations;
      good = every_cons good_declaration w.tree w.then.declarations w.good w.then.good;
      rest = w.then.rest;
      all = each_front print_declaration w.tree w.then.declarations (b ∷ l) w.rest w.then.rest (ap (λ z. z ∷ l) (eqb-true b open_angle e) ∙ w.all) w.then.all;
      then = w.then.then;
    })
    (λ e c. no_declarations (b ∷ l) (front_left b l c))

-- a bracket, `@`, places and `>`
declaration_bytes : (d : Declaration) (b : ℕ) (l v u rest : List ℕ) → b ≡ open_square → l ≡ (print_inside d.inside ++ (shut_square ∷ [])) ++ v → v ≡ at_sign ∷ u
    → u ≡ print_targets d.first d.more ++ (shut_angle ∷ rest) → open_angle ∷ b ∷ l ≡ print_declaration d ++ rest
declaration_bytes d b l v u rest e f g k =
    let places = print_targets d.first d.more in
    ap (λ z. open_angle ∷ z) (square_bytes b d.inside l v e f
    ∙ ap (λ z. print_square d.inside ++ z) (g ∙ ap (λ z. at_sign ∷ z) (k ∙ sym (append_assoc places (shut_angle ∷ []) rest)))
    ∙ sym (append_assoc (print_square d.inside) (at_sign ∷ (places ++ (shut_angle ∷ []))) rest))

angle_left : (b : ℕ) (l : List ℕ) → After (act Angle b) l → Angled (b ∷ l)
unfolding act After
angle_left b l a = by (eqb b open_square) _ _ l a (λ e (w : ByteTaken declared l). go e w (subst (λ (z : Mode). Left z w.rest) (same_mode (bare_inside w.tree) Tagged) w.then)) (λ e w. absurd w)
  where
    go : eqb b open_square ≡ true → (w : ByteTaken declared l) → At w.rest → Angled (b ∷ l)
    go e w t =
        let p = t.then in
        let d : Declaration = record { inside = w.tree; first = p.first; more = p.more } in
        record {
          tree = d;
          good = both (good_inside false false w.tree) (every good_target (p.first ∷ p.more)) w.good p.good;
          rest = p.rest;
          all = declaration_bytes d b l w.rest t.rest p.rest (eqb-true b open_square e) w.all t.all p.all;
          then = p.then;
        }

tagged_left : (b : ℕ) (l : List ℕ) → After (act Tagged b) l → At (b ∷ l)
unfolding act After
tagged_left b l a = by (eqb b at_sign) _ _ l a (λ e (w : Targets l). record { rest = l; all = ap (λ z. z ∷ l) (eqb-true b at_sign e); then = w }) (λ e w. absurd w)

listed_left : (b : ℕ) (l : List ℕ) → After (act Listed b) l → Shut (b ∷ l)
unfolding act After
listed_left b l a = by (eqb b shut_angle) _ _ l a (λ e (w : Declares l). record { rest = l; all = ap (λ z. z ∷ l) (eqb-true b shut_angle e); then = w }) (λ e w. absurd w)

start_left : (b : ℕ) (l : List ℕ) → After (act Start b) l → Sequence (b ∷ l)
unfolding act
start_left b l a = element_left b l a

unsure_end_left : (b : ℕ) (l : List ℕ) → After (act UnsureEnd b) l → Tail (b ∷ l)
unfolding act
unsure_end_left b l a = further_left b l a

-- ---- all modes
left_cons : (m : Mode) (b : ℕ) (l : List ℕ) → After (act m b) l → Left m (b ∷ l)
unfolding act
left_cons Front b l a = declares_left b l a
left_cons Angle b l a = angle_left b l a
left_cons Tagged b l a = tagged_left b l a
left_cons Listed b l a = listed_left b l a
left_cons Runs b l a = front_left b l a
left_cons Undecided b l a = undecided_left b l a
left_cons Counted b l a = counted_left b l a
left_cons Referred b l a = referred_left b l a
left_cons Caret b l a = caret_left b l a
left_cons Counting b l a = counting_left b l a
left_cons Labiles b l a = labiles_left b l a
left_cons NTerms b l a = nterms_left b l a
left_cons Start b l a = start_left b l a
left_cons Single b l a = single_left b l a
left_cons Opened b l a = opened_left b l a
left_cons UnsureOpened b l a = unsure_opened_left b l a
left_cons InRange b l a = range_left b l a
left_cons InUnsure b l a = in_unsure_left b l a
left_cons RangeEnd b l a = range_end_left b l a
left_cons Ranged b l a = ranged_left b l a
left_cons UnsureEnd b l a = unsure_end_left b l a
left_cons CStart b l a = cstart_left b l a
left_cons CTerms b l a = cterms_left b l a

no_tail : Tail []
no_tail = record { elems = []; good = every_nil good_element; back = []; good_back = every_nil (good_inside true true); all = each_none print_element [] }

left_nil : (m : Mode) → Ending m → Left m []
left_nil Single single_ends = no_squares true Tail [] no_tail
left_nil Ranged ranged_ends = no_squares false Tail [] no_tail
left_nil UnsureEnd unsure_ends = no_tail
left_nil CTerms cterms_end = no_squares true Empty [] refl
left_nil Front e = elim e [ ]
left_nil Angle e = elim e [ ]
left_nil Tagged e = elim e [ ]
left_nil Listed e = elim e [ ]
left_nil Runs e = elim e [ ]
left_nil Undecided e = elim e [ ]
left_nil Counted e = elim e [ ]
left_nil Referred e = elim e [ ]
left_nil Caret e = elim e [ ]
left_nil Counting e = elim e [ ]
left_nil Labiles e = elim e [ ]
left_nil NTerms e = elim e [ ]
left_nil Start e = elim e [ ]
left_nil Opened e = elim e [ ]
left_nil UnsureOpened e = elim e [ ]
left_nil InRange e = elim e [ ]
left_nil InUnsure e = elim e [ ]
left_nil RangeEnd e = elim e [ ]
left_nil CStart e = elim e [ ]

-- ---- a line that is accepted from a state on
abbrev Accepts : State Place → List ℕ → Type 0
Accepts s l = there? (told (line_run s l)) ≡ true

dead_run : (l : List ℕ) → line_run (dead tt) l ≡ dead tt
unfolding line_run step
dead_run [] = refl
dead_run (b ∷ l) = dead_run l

dead_not : (l : List ℕ) → Accepts (dead tt) l → ⊥
dead_not l e = false≢true (ap (λ s. there? (told s)) (sym (dead_run l)) ∙ e)

ends : (m : Mode) (h : Held Place) → Accepts (outside m h) [] → may_end m ≡ true
ends m h e = go (may_end m) (ap (λ s. there? (told s)) (sym (line_nil (outside m h))) ∙ e)
  where
    go : (t : Bool) → there? (cond t (some (line_of h)) none) ≡ true → t ≡ true
    go true f = refl
    go false f = absurd (false≢true f)

-- a bracket closes
record Split (s : Slot) (h : Held Place) (c : Inner Place) (l : List ℕ) : Type 0 where
  pub inner : List ℕ
  pub parts : Parts
  pub rest : List ℕ
  pub all : l ≡ inner ++ rest
  pub closes : content_run (going c) inner ≡ closed parts
  pub accepts : Accepts (outside (mode_after s parts) (with_bracket s.kind tt parts h)) rest

split : (l : List ℕ) (s : Slot) (h : Held Place) (c : Inner Place) → Accepts (inside s tt h c) l → Split s h c l
unfolding step resume
split [] s h c e = absurd (false≢true (ap (λ z. there? (told z)) (sym (line_nil (inside s tt h c))) ∙ e))
split (b ∷ l) s h c e = go (inner_step tt c b) refl (ap (λ z. there? (told z)) (sym (line_cons (inside s tt h c) b l)) ∙ e) (λ d f. split l s h d f)
  where
    go : (x : Content Place) → inner_step tt c b ≡ x → Accepts (resume s tt h tt x) l → ((d : Inner Place) → Accepts (inside s tt h d) l → Split s h d l) → Split s h c (b ∷ l)
    go lost q f ih = absurd (dead_not l f)
    go (closed ps) q f ih = record { inner = b ∷ []; parts = ps; rest = l; all = refl; closes = content_cons c b [] ∙ ap (λ z. content_run z []) q ∙ content_nil (closed ps); accepts = f }
    go (going d) q f ih =
        let i = ih d f in
        record { inner = b ∷ i.inner; parts = i.parts; rest = i.rest; all = ap (λ z. b ∷ z) i.all; closes = content_cons c b i.inner ∙ ap (λ z. content_run z i.inner) q ∙ i.closes; accepts = i.accepts }

abbrev Upto : ℕ → Type 0
Upto n = (m : Mode) (h : Held Place) (l : List ℕ) → length l ≤ n → Accepts (outside m h) l → Left m l

taken : (n : ℕ) → Upto n → (s : Slot) (h : Held Place) (l : List ℕ) → length l ≤ n → Accepts (inside s tt h (begin (context s.shut s.refers s.labels []))) l → ByteTaken s l
taken n ih s h l k e =
    let i = split l s h (begin (context s.shut s.refers s.labels [])) e in
    let j = closed_spelled s.shut s.refers s.labels i.inner i.parts i.closes in
    let short : length i.rest ≤ n = omega (arith, ap length i.all ∙ length-append i.inner i.rest) in
    record {
      tree = j.tree;
      good = j.good;
      rest = i.rest;
      all = i.all ∙ ap (λ z. z ++ i.rest) j.prints;
      then = subst (λ (z : Parts). Left (mode_after s z) i.rest) j.means (ih (mode_after s i.parts) (with_bracket s.kind tt i.parts h) i.rest short i.accepts);
    }

-- ---- places, from a state of them on
abbrev PlacesLeft : Placing Place → List ℕ → Type 0
PlacesLeft (expected ps) l = Targets l
PlacesLeft (placed ps p) l = Lettered p.site l
PlacesLeft (owing ps p x w) l = Owed (x ∷ w) l

-- what is owed is owed of a terminus, behind which no word begins
abbrev Sited : Placing Place → Type 0
Sited (expected ps) = Unit {0}
Sited (placed ps p) = Unit {0}
Sited (owing ps p x w) = terminus_of p.site ≡ none

owed_sited : (ps : List (Site Place)) (p : Site Place) (w : List ℕ) → terminus_of p.site ≡ none → Sited (owed ps p w)
owed_sited ps p [] e = tt
owed_sited ps p (x ∷ w) e = e

owed_left : (ps : List (Site Place)) (p : Site Place) (w l : List ℕ) → terminus_of p.site ≡ none → PlacesLeft (owed ps p w) l → Owed w l
unfolding same_folded
owed_left ps p [] l e (as_letter m) = record { spelled = []; good = refl; rest = l; all = refl; then = m }
owed_left ps p [] l e (as_word s f o) = absurd (none-ne-some s (sym e ∙ f))
owed_left ps p (x ∷ w) l e o = o

-- one byte of a word in front
owed_cons : (x b : ℕ) (w l : List ℕ) → eqb (upper x) (upper b) ≡ true → Owed w l → Owed (x ∷ w) (b ∷ l)
unfolding same_folded
owed_cons x b w l e o = record { spelled = b ∷ o.spelled; good = both _ _ e o.good; rest = o.rest; all = ap (λ z. b ∷ z) o.all; then = o.then }

-- a place in front of others
target_cons : (x : Target) (l v : List ℕ) → good_target x ≡ true → l ≡ print_target x ++ v → MoreTargets v → Targets l
target_cons x l v g e m =
    record {
      first = x;
      more = m.more;
      good = every_cons good_target x m.more g m.good;
      rest = m.rest;
      all = e ∙ ap (λ z. print_target x ++ z) m.all ∙ sym (append_assoc (print_target x) (print_more m.more) (shut_angle ∷ m.rest)) ∙ ap (λ z. z ++ (shut_angle ∷ m.rest)) (sym (print_targets_lem x m.more));
      then = m.then;
    }

lettered_left : (b : ℕ) (l : List ℕ) → is_letter b ≡ true → Lettered (upper b) l → Targets (b ∷ l)
lettered_left b l e (as_letter m) = target_cons (a_letter b) (b ∷ l) l e refl m
lettered_left b l e (as_word s f o) = target_cons (a_terminus s (b ∷ o.spelled)) (b ∷ l) o.rest (terminus_good b s o.spelled f o.good) (ap (λ z. b ∷ z) o.all) o.then

place_left_lem : {b : ℕ} {s t : Placing Place} → PlaceOn tt b s t → (l : List ℕ) → Sited s → (Sited t → PlacesLeft t l) → PlacesLeft s (b ∷ l)
place_left_lem {b = b} (place_begins e) l g r = lettered_left b l e (r tt)
place_left_lem {b = b} (place_over e) l g r =
    let t = r tt in
    as_letter (record {
      more = t.first ∷ t.more;
      good = t.good;
      rest = t.rest;
      all = ap (λ z. z ∷ l) (eqb-true b comma e) ∙ ap (λ z. comma ∷ z) t.all;
      then = t.then;
    })
place_left_lem {b = b} (word_begins {p = p} {s = s} e f) l g r =
    as_word s f (owed_cons dash b (bytes "term") l (eq-eqb (upper dash) (upper b) (ap upper (sym (eqb-true b dash e)))) (r (no_word p.site s f)))
place_left_lem {b = b} (word_on {ps = ps} {p = p} {x = x} {w = w} e) l g r = owed_cons x b w l e (owed_left ps p w l g (r (owed_sited ps p w g)))

places_left : (n : ℕ) → Upto n → (l : List ℕ) (s : Placing Place) (h : Held Place) → length l ≤ n → Sited s → Accepts (placing h s) l → PlacesLeft s l
places_left n ih [] s h k g e = absurd (false≢true (ap (λ z. there? (told z)) (sym (line_nil (placing h s))) ∙ e))
places_left n ih (b ∷ l) s h k g e =
    go (places_go tt b h s) g (ap (λ z. there? (told z)) (sym (line_cons (placing h s) b l)) ∙ e) (λ t u f. places_left n ih l t h (omega arith) u f)
  where
    go : {s : Placing Place} {x : State Place} → PlacesGo tt b h s x → Sited s → Accepts x l → ((t : Placing Place) → Sited t → Accepts (placing h t) l → PlacesLeft t l) → PlacesLeft s (b ∷ l)
    go (places_on {t = t} o) u f more = place_left_lem o l u (λ v. more t v f)
    go (places_over q) u f more =
        as_letter (record { more = []; good = every_nil good_target; rest = l; all = ap (λ z. z ∷ l) (eqb-true b shut_angle q); then = ih Front _ l (omega arith) f })
    go places_stop u f more = absurd (dead_not l f)

after : (n : ℕ) → Upto n → (a : Act) (h : Held Place) (b : ℕ) (l : List ℕ) → length l ≤ n → Accepts (perform tt b h a) l → After a l
unfolding perform After
after n ih Stop h b l k e = dead_not l e
after n ih (Go m) h b l k e = ih m h l k e
after n ih (a_residue s m) h b l k e = ih m (with_residue tt b s h) l k e
after n ih (Begin s) h b l k e = taken n ih s h l k e
after n ih Digit h b l k e = ih Counting (with_digit tt b h) l k e
after n ih RunEnds h b l k e = ih Runs (settled_run (λ q. q) h) l k e
after n ih TermEnds h b l k e = ih Start (settled_run as_nTerm h) l k e
after n ih Places h b l k e = places_left n ih l (expected []) h k tt e

none_left : Upto 0
none_left m h [] k e = left_nil m (ending m (ends m h e))
none_left m h (b ∷ l) k e = absurd (omega arith)

one_more : (n : ℕ) → Upto n → Upto (suc n)
unfolding step
one_more n ih m h [] k e = left_nil m (ending m (ends m h e))
one_more n ih m h (b ∷ l) k e = left_cons m b l (after n ih (act m b) h b l (omega arith) (ap (λ z. there? (told z)) (sym (line_cons (outside m h) b l)) ∙ e))

left : (n : ℕ) → Upto n
left zero = none_left
left (suc n) = one_more n (left n)

-- ---- a whole line
pub record LineSpelt (l : List ℕ) : Type 0 where
  pub tree : Spelling
  pub fine : good tree ≡ true
  pub prints : l ≡ print tree

spelt : (l : List ℕ) → Declares l → LineSpelt l
spelt l v =
    let w = v.then in
    let c = w.then in
    let s = c.then in
    let t = s.then in
    let x : Spelling = record { declarations = v.declarations; runs = w.runs; labiles = c.labiles; front = c.front; first = s.first; more = t.elems; back = t.back } in
    record {
      tree = x;
      fine =
          both (every good_declaration v.declarations) _ v.good
          (both (every good_run w.runs) _ w.good
          (both (good_curlies c.labiles) _ c.good
          (both (good_squares true c.front) _ c.good_front (both (every good_element (elements x)) (good_squares true t.back) (every_cons good_element s.first t.elems s.good t.good) t.good_back))));
      prints =
          v.all ∙ ap (λ z. flat print_declaration v.declarations ++ z) (w.all
          ∙ ap (λ z. flat print_run w.runs ++ z) (c.all
          ∙ ap (λ z. flat print_curly c.labiles ++ (print_front c.front ++ z)) (each_front print_element s.first t.elems c.rest s.rest (print_back t.back) s.all t.all)));
    }

-- what the reader accepts is printed by a good spelling
pub accepted_spelt : (l : List ℕ) → there? (told (line_run start l)) ≡ true → LineSpelt l
accepted_spelt l e = spelt l (left (length l) Front _ l (omega arith) e)
