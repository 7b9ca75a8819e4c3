-- The reader outside brackets, as a table: for each mode the ways on from it, each with the sort of its byte, in the order of trying. What a byte
-- does is what the first way does whose sort it is of (act_ways). So a rule over acts is one test, computed over the table (act_rule), and a rule
-- over modes is one test, computed over the modes (each_mode).
use Rattle.std.specs.Prelude.{ℕ, zero, suc, ◌≡◌, refl, Bool, true, false, cond, ◌&&◌, ◌||◌, List, [], ◌∷◌, eqb}
use Rattle.std.proofs.Common.{sym, ◌∙◌, subst}
use Rattle.std.proofs.lemmas.Bool.{false≢true}
use Rattle.scope.specs.declared.grammar.Section.{Section}
use Rattle.scope.specs.declared.grammar.Section.TheVariants.{Plain, RangeFirst, RangeNext, UnsureFirst, UnsureNext}
use Rattle.scope.specs.declared.grammar.Kind.TheVariants.{Unknown, NTerm, OnResidue, OnRange, CTerm}
use Rattle.scope.specs.declared.grammar.Mode.{Mode}
use Rattle.scope.specs.declared.grammar.Mode.TheVariants.{Front, Angle, Tagged, Listed, Runs, Undecided, Counted, Referred, Caret, Counting, Labiles, NTerms, Start, Single, Opened, UnsureOpened, InRange, InUnsure, RangeEnd, Ranged, UnsureEnd, CStart, CTerms}
use Rattle.scope.specs.declared.grammar.Slot.{Slot}
use Rattle.scope.specs.declared.grammar.Act.{Act}
use Rattle.scope.specs.declared.grammar.Act.TheVariants.{Stop, Go, Residue as a_residue, Begin, Digit, RunEnds, TermEnds, Places}
use Rattle.scope.specs.Bytes.{is_letter, is_digit, open_square, open_curly, open_round, shut_round, open_angle, shut_angle, at_sign, caret, question, dash}
use Rattle.scope.specs.Reading.{square, front, labile, declared, element, further, group_first, in_group, undecided, counted, referred, act, may_end}
use Rattle.basics.specs.Choice.{branch_on}
use Rattle.basics.specs.Each.{failing, first_passes}
use Rattle.basics.specs.Tests.{both_of}

-- ---- the table
pub data Sort : Type 0 where
  letter : Sort
  digit : Sort
  only : ℕ → Sort
  any : Sort

abbrev pub is_of : Sort → ℕ → Bool
is_of letter b = is_letter b
is_of digit b = is_digit b
is_of (only c) b = eqb b c
is_of any b = true

pub record Way : Type 0 where
  pub sort : Sort
  pub does : Act

abbrev pub on : Sort → Act → Way
on q a = record { sort = q; does = a }

abbrev pub elements : List Way
elements = on letter (a_residue Plain Single) ∷ on (only open_round) (Go Opened) ∷ []

abbrev pub furthers : List Way
furthers = on (only dash) (Go CStart) ∷ elements

abbrev pub in_groups : Section → Mode → Mode → List Way
in_groups s m end =
    on letter (a_residue s m) ∷ on (only open_square) (Begin (square OnResidue true m)) ∷ on (only shut_round) (Go end) ∷ []

abbrev pub counteds : List Way
counteds = on (only open_square) (Begin (square Unknown false Counted)) ∷ on (only question) RunEnds ∷ []

abbrev pub at_fronts : List Way
at_fronts = on (only open_square) (Begin front) ∷ on (only open_curly) (Begin labile) ∷ elements

abbrev pub ways : Mode → List Way
ways Front = on (only open_angle) (Go Angle) ∷ at_fronts
ways Angle = on (only open_square) (Begin declared) ∷ []
ways Tagged = on (only at_sign) Places ∷ []
ways Listed = on (only shut_angle) (Go Front) ∷ []
ways Runs = at_fronts
ways Undecided =
    on (only caret) (Go Caret) ∷ on (only open_square) (Begin front) ∷ on (only question) RunEnds ∷ on (only dash) TermEnds ∷ []
ways Counted = on (only caret) (Go Caret) ∷ counteds
ways Referred = on (only open_square) (Begin (square Unknown true Referred)) ∷ on (only dash) TermEnds ∷ []
ways Caret = on digit Digit ∷ []
ways Counting = on digit Digit ∷ counteds
ways Labiles = on (only open_curly) (Begin labile) ∷ on (only open_square) (Begin (square NTerm true NTerms)) ∷ elements
ways NTerms = on (only open_square) (Begin (square NTerm true NTerms)) ∷ on (only dash) (Go Start) ∷ []
ways Start = elements
ways Single = on (only open_square) (Begin (square OnResidue true Single)) ∷ furthers
ways Opened = on (only question) (Go UnsureOpened) ∷ on letter (a_residue RangeFirst InRange) ∷ []
ways UnsureOpened = on letter (a_residue UnsureFirst InUnsure) ∷ []
ways InRange = in_groups RangeNext InRange RangeEnd
ways InUnsure = in_groups UnsureNext InUnsure UnsureEnd
ways RangeEnd = on (only open_square) (Begin (square OnRange false Ranged)) ∷ []
ways Ranged = on (only open_square) (Begin (square OnRange false Ranged)) ∷ furthers
ways UnsureEnd = furthers
ways CStart = on (only open_square) (Begin (square CTerm true CTerms)) ∷ []
ways CTerms = on (only open_square) (Begin (square CTerm true CTerms)) ∷ []

unfoldable pub pick : List Way → ℕ → Act
pick [] b = Stop
pick (w ∷ ws) b = cond (is_of w.sort b) w.does (pick ws b)

-- where a line may end
pub data Ending : Mode → Type 0 where
  single_ends : Ending Single
  ranged_ends : Ending Ranged
  unsure_ends : Ending UnsureEnd
  cterms_end : Ending CTerms

-- ---- tests over all modes
abbrev others : List Mode
others =
    Angle ∷ Tagged ∷ Listed ∷ Runs ∷ Undecided ∷ Counted ∷ Referred ∷ Caret ∷ Counting ∷ Labiles ∷ NTerms ∷ Start ∷ Single ∷ Opened ∷ UnsureOpened ∷ InRange ∷ InUnsure ∷ RangeEnd
    ∷ Ranged ∷ UnsureEnd ∷ CStart ∷ CTerms ∷ []

abbrev pub modes : List Mode
modes = Front ∷ others

abbrev nth : Mode → List Mode → ℕ → Mode
nth m ms zero = m
nth m [] (suc n) = m
nth m (o ∷ ms) (suc n) = nth o ms n

passes_at : (T : Mode → Bool) (m : Mode) (ms : List Mode) → failing T (m ∷ ms) ≡ [] → (n : ℕ) → T (nth m ms n) ≡ true
passes_at T m ms e zero = (first_passes T m ms e).0
passes_at T m [] e (suc n) = (first_passes T m [] e).0
passes_at T m (o ∷ ms) e (suc n) = passes_at T o ms (first_passes T m (o ∷ ms) e).1 n

-- ---- what is known of each mode: it is in the list, the table is what the definition says, and whether a line may end there
record KnownMode (m : Mode) : Type 0 where
  pub passes : (T : Mode → Bool) → failing T modes ≡ [] → T m ≡ true
  pub does : (b : ℕ) → act m b ≡ pick (ways m) b
  pub ends : may_end m ≡ true → Ending m

row :
    (n : ℕ) → ((b : ℕ) → act (nth Front others n) b ≡ pick (ways (nth Front others n)) b) → (may_end (nth Front others n) ≡ true → Ending (nth Front others n))
    → KnownMode (nth Front others n)
row n d f = record { passes = λ T e. passes_at T Front others e n; does = d; ends = f }

no : {A : Type 0} → false ≡ true → A
no e = absurd (false≢true e)

known : (m : Mode) → KnownMode m
unfolding act element further group_first in_group undecided counted referred pick
known Front = row 0 (λ b. refl) no
known Angle = row 1 (λ b. refl) no
known Tagged = row 2 (λ b. refl) no
known Listed = row 3 (λ b. refl) no
known Runs = row 4 (λ b. refl) no
known Undecided = row 5 (λ b. refl) no
known Counted = row 6 (λ b. refl) no
known Referred = row 7 (λ b. refl) no
known Caret = row 8 (λ b. refl) no
known Counting = row 9 (λ b. refl) no
known Labiles = row 10 (λ b. refl) no
known NTerms = row 11 (λ b. refl) no
known Start = row 12 (λ b. refl) no
known Single = row 13 (λ b. refl) (λ e. single_ends)
known Opened = row 14 (λ b. refl) no
known UnsureOpened = row 15 (λ b. refl) no
known InRange = row 16 (λ b. refl) no
known InUnsure = row 17 (λ b. refl) no
known RangeEnd = row 18 (λ b. refl) no
known Ranged = row 19 (λ b. refl) (λ e. ranged_ends)
known UnsureEnd = row 20 (λ b. refl) (λ e. unsure_ends)
known CStart = row 21 (λ b. refl) no
known CTerms = row 22 (λ b. refl) (λ e. cterms_end)

pub each_mode : (T : Mode → Bool) → failing T modes ≡ [] → (m : Mode) → T m ≡ true
each_mode T e m = (known m).passes T e

pub act_ways : (m : Mode) (b : ℕ) → act m b ≡ pick (ways m) b
act_ways m = (known m).does

pub ending : (m : Mode) → may_end m ≡ true → Ending m
ending m = (known m).ends

-- ---- rules over acts
-- what a byte does passes a test together with a sort that the byte is of; where no line goes on so the sort is `any`
pub record Told (T : Sort → Act → Bool) (b : ℕ) (a : Act) : Type 0 where
  pub sort : Sort
  pub is : is_of sort b ≡ true
  pub passes : T sort a ≡ true

abbrev pub passes_in : (Sort → Act → Bool) → List Way → Bool
passes_in T [] = T any Stop
passes_in T (w ∷ ws) = T w.sort w.does && passes_in T ws

-- the modes that break a rule
abbrev pub breaking : (Mode → Sort → Act → Bool) → List Mode
breaking T = failing (λ m. passes_in (T m) (ways m)) modes

pick_told : (T : Sort → Act → Bool) (b : ℕ) (ws : List Way) → passes_in T ws ≡ true → Told T b (pick ws b)
unfolding pick
pick_told T b [] e = record { sort = any; is = refl; passes = e }
pick_told T b (w ∷ ws) e =
    let p = both_of (T w.sort w.does) _ e in
    branch_on (Told T b) (is_of w.sort b) (λ f. record { sort = w.sort; is = f; passes = p.0 }) (λ f. pick_told T b ws p.1)

pub act_told : (T : Mode → Sort → Act → Bool) → breaking T ≡ [] → (m : Mode) (b : ℕ) → Told (T m) b (act m b)
act_told T e m b =
    subst (Told (T m) b) (sym (act_ways m b)) (pick_told (T m) b (ways m) (each_mode (λ m. passes_in (T m) (ways m)) e m))

-- the same, whatever the byte
pub act_rule : (T : Mode → Act → Bool) → breaking (λ m q. T m) ≡ [] → (m : Mode) (b : ℕ) → T m (act m b) ≡ true
act_rule T e m b = (act_told (λ m q. T m) e m b).passes

-- what an act says of its byte: a residue's is a letter, a digit's a digit
abbrev pub ByteOf : Act → ℕ → Type 0
ByteOf Stop b = Unit {0}
ByteOf (Go m) b = Unit {0}
ByteOf (a_residue s m) b = is_letter b ≡ true
ByteOf (Begin s) b = Unit {0}
ByteOf Digit b = is_digit b ≡ true
ByteOf RunEnds b = Unit {0}
ByteOf TermEnds b = Unit {0}
ByteOf Places b = Unit {0}

abbrev suits : Act → Sort → Bool
suits Stop q = true
suits (Go m) q = true
suits (a_residue s m) q = elim q [ letter ↦ true | digit ↦ false | only c ↦ false | any ↦ false ]
suits (Begin s) q = true
suits Digit q = elim q [ letter ↦ false | digit ↦ true | only c ↦ false | any ↦ false ]
suits RunEnds q = true
suits TermEnds q = true
suits Places q = true

pub act_byte : (m : Mode) (b : ℕ) → ByteOf (act m b) b
act_byte m b = let t = act_told (λ m q a. suits a q) refl m b in go (act m b) t.sort t.is t.passes
  where
    go : (a : Act) (q : Sort) → is_of q b ≡ true → suits a q ≡ true → ByteOf a b
    go Stop q e f = tt
    go (Go m) q e f = tt
    go (a_residue s m) letter e f = e
    go (a_residue s m) digit e f = absurd (false≢true f)
    go (a_residue s m) (only c) e f = absurd (false≢true f)
    go (a_residue s m) any e f = absurd (false≢true f)
    go (Begin s) q e f = tt
    go Digit letter e f = absurd (false≢true f)
    go Digit digit e f = e
    go Digit (only c) e f = absurd (false≢true f)
    go Digit any e f = absurd (false≢true f)
    go RunEnds q e f = tt
    go TermEnds q e f = tt
    go Places q e f = tt

-- a byte that is of no sort by which there is a way on
abbrev pub sorts_in : (Sort → Bool) → List Way → Bool
sorts_in S [] = true
sorts_in S (w ∷ ws) = S w.sort && sorts_in S ws

pick_none : (S : Sort → Bool) (b : ℕ) → ((q : Sort) → S q ≡ true → is_of q b ≡ false) → (ws : List Way) → sorts_in S ws ≡ true → pick ws b ≡ Stop
unfolding pick
pick_none S b f [] e = refl
pick_none S b f (w ∷ ws) e =
    let p = both_of (S w.sort) _ e in
    let g = f w.sort p.0 in
    rw g (pick_none S b f ws p.1)

pub act_none : (S : Sort → Bool) → failing (λ m. sorts_in S (ways m)) modes ≡ [] → (b : ℕ) → ((q : Sort) → S q ≡ true → is_of q b ≡ false) → (m : Mode)
    → act m b ≡ Stop
act_none S e b f m = act_ways m b ∙ pick_none S b f (ways m) (each_mode (λ m. sorts_in S (ways m)) e m)

-- a test of the brackets that begin
abbrev pub of_slot : (Slot → Bool) → Act → Bool
of_slot T Stop = true
of_slot T (Go m) = true
of_slot T (a_residue s m) = true
of_slot T (Begin s) = T s
of_slot T Digit = true
of_slot T RunEnds = true
of_slot T TermEnds = true
of_slot T Places = true

-- ---- what may be done in a mode
abbrev pub some_way : (Act → Bool) → List Way → Bool
some_way T [] = false
some_way T (w ∷ ws) = T w.does || some_way T ws

abbrev pub ends_run : Act → Bool
ends_run Stop = false
ends_run (Go m) = false
ends_run (a_residue s m) = false
ends_run (Begin s) = false
ends_run Digit = false
ends_run RunEnds = true
ends_run TermEnds = false
ends_run Places = false

abbrev pub ends_term : Act → Bool
ends_term Stop = false
ends_term (Go m) = false
ends_term (a_residue s m) = false
ends_term (Begin s) = false
ends_term Digit = false
ends_term RunEnds = false
ends_term TermEnds = true
ends_term Places = false

abbrev pub counts : Act → Bool
counts Stop = false
counts (Go m) = false
counts (a_residue s m) = false
counts (Begin s) = false
counts Digit = true
counts RunEnds = false
counts TermEnds = false
counts Places = false

-- brackets at the front wait where `?` or `-` may settle them, or a count go on
abbrev pub waits : Mode → Bool
waits m = some_way ends_run (ways m) || (some_way ends_term (ways m) || some_way counts (ways m))
