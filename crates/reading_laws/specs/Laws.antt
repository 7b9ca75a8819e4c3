-- Laws of the reader and of the refusals, stated. Their proofs: proofs/Proved.antt, and the files that it cites.
use Rattle.std.specs.Prelude.{ℕ, ◌+◌, ◌≤◌, ◌<◌, ◌≡◌, ◌↔◌, ◌⊎◌, cond, List, [], ◌∷◌, ◌++◌, eqb, length, take}
use Rattle.std.proofs.Math.Option.{none, some}
use Rattle.scope.specs.Line.{Line}
use Rattle.scope.specs.Reading.{Reading, stuck, holds, reading}
use Rattle.scope.specs.Kept.{kept}
use Rattle.scope.specs.Refusals.{least, refusal3, refusal4, Due, due, Outcome, accepted, refused, first_due, line_refusals, byte_refusals, outcome}
use Rattle.basics.specs.Each.{Each, In}

-- ---- the place of refusal 4: "first byte with which no line of any length begins so; else the line's length"
pub record Refused4 (s : List ℕ) (i : ℕ) : Type 0 where
  pub inside : i ≤ length s
  pub begins : (l : List ℕ) × (t : Line ℕ) × (reading (take i s ++ l) ≡ holds t)
  pub stops : i < length s → (l : List ℕ) (t : Line ℕ) → reading (take (i + 1) s ++ l) ≡ holds t → ⊥
  pub ends : i ≡ length s → (t : Line ℕ) → reading s ≡ holds t → ⊥

-- ---- which refusal is given

-- none of the list is due
abbrev pub Clear : List Due → Type 0
Clear ds = Each (λ d. d.places ≡ []) ds

-- i is the first place of the list
pub record Least (l : List ℕ) (i : ℕ) : Type 0 where
  pub member : In i l
  pub lower : Each (λ j. i ≤ j) l

-- number k is due, first at i, and none before it in the list
pub record First (ds : List Due) (k i : ℕ) : Type 0 where
  pub before : List Due
  pub places : List ℕ
  pub after : List Due
  pub whole : ds ≡ before ++ (due k places ∷ after)
  pub clear : Clear before
  pub at : Least places i

-- where a number is due
unfoldable pub places_of : List Due → ℕ → List ℕ
places_of [] k = []
places_of (d ∷ ds) k = cond (eqb d.number k) d.places (places_of ds k)

-- a number is due, first at a place, and no lower one at any; behind 10 neither is 21
abbrev pub Lowest : List Due → ℕ → ℕ → Type 0
Lowest ds k i = Least (places_of ds k) i × ((j : ℕ) → j < k → places_of ds j ≡ []) × (10 < k → places_of ds 21 ≡ [])

-- the refusals of a line in the order of trying; those behind 4 are due only in a line of the order
abbrev pub behind : Reading → List Due
behind (stuck i) = []
behind (holds l) = line_refusals l

unfoldable pub dues : List ℕ → List Due
dues s = byte_refusals s ++ (due 4 (refusal4 (reading s)) ∷ behind (reading s))

-- l is what is kept of what the line s holds
abbrev pub KeptOf : List ℕ → Line ℕ → Type 0
KeptOf s l = (r : Line ℕ) × (reading s ≡ holds r) × (l ≡ kept r)

-- ---- the laws
pub record Laws : Type 0 where
  -- 4 "Given exactly when .. not of the order above, limits apart", at "first byte with which no line of any length begins so; else the line's
  -- length": the reader is stuck exactly there, and there is no other such place
  pub place_of_4 : (s : List ℕ) (i : ℕ) → reading s ≡ stuck i ↔ Refused4 s i
  pub one_place : (s : List ℕ) (i j : ℕ) → Refused4 s i → Refused4 s j → i ≡ j
  -- 3 "a byte outside 32 to 126": a line of the order has none, so the lines that Refused4 speaks of are lines of printable bytes
  pub printable : (s : List ℕ) (t : Line ℕ) → reading s ≡ holds t → refusal3 s ≡ []
  -- "at its first place in the line"
  pub first_place : (l : List ℕ) (i : ℕ) → least l ≡ some i ↔ Least l i
  pub no_place : (l : List ℕ) → least l ≡ none ↔ (l ≡ [])
  -- "tries .. in that order", for any list of refusals: the first that is due is given, and where none is, what is left
  pub in_order_lem : (ds : List Due) (o : Outcome) (k i : ℕ) → first_due ds o ≡ refused k i ↔ (First ds k i ⊎ (Clear ds × (o ≡ refused k i)))
  -- "Reading tries .. in that order": a number is given exactly when it is due and none that stands before it in the order of trying is, at its first place
  pub first_wins : (s : List ℕ) (k i : ℕ) → outcome s ≡ refused k i ↔ First (dues s) k i
  pub first_of_its_places : (s : List ℕ) (k i : ℕ) → outcome s ≡ refused k i → Least (places_of (dues s) k) i
  -- document 01's sentence, "1 to 12 in that order; the lowest number wins": one of these is given exactly when it is due and no lower one is; 21, which is tried "after 10",
  -- goes before 11 and 12
  pub lowest_wins : (s : List ℕ) (k i : ℕ) → k ≤ 12 → outcome s ≡ refused k i ↔ Lowest (dues s) k i
  -- a line is accepted exactly when it is of the order and no number is due, with what is kept of it
  pub none_due : (s : List ℕ) (l : Line ℕ) → outcome s ≡ accepted l ↔ (KeptOf s l × ((k : ℕ) → places_of (dues s) k ≡ []))
  -- the table's column "Place": each is a byte of the line, but for 1 and 4, whose place may be its length
  pub inside_line : (s : List ℕ) (k : ℕ) → Each (λ i. (i ≤ length s) × ((k ≡ 1 → ⊥) → (k ≡ 4 → ⊥) → i < length s)) (places_of (dues s) k)
