-- "answer as a plain map would, over any sequence of calls": the calls one after another on an area, and on a plain map with room for so many blocks.
use Rattle.std.specs.Prelude.{ℕ, ◌+◌, ◌<◌, ◌^◌, cond, not, List, [], ◌∷◌, ◌++◌, eqb, ltb, length}
use Rattle.std.proofs.Math.Option.{Option, none, some}
use Rattle.scope.specs.Lists.{given, keep}
use Rattle.scope.specs.Refusals.{Outcome, accepted, refused, outcome}
use Rattle.scope.specs.Canonical.{canonical}
use Rattle.scope.specs.Positions.{floating_of}
use Rattle.scope.specs.Placements.{allowed}
use Rattle.scope.specs.Answers.{Said, good, refuses}
use Rattle.blocks.specs.Entry.{Entry, positions_of}
use Rattle.blocks.specs.Answers.{fetch_said, remove_said, remove_after, blocks_for, add_said, add_after}

-- ---- calls, by entry number: a line with a placement added; fetched into an output with so much room; removed
pub data Call : Type 0 where
  adds : ℕ → List ℕ → List ℕ → Call
  fetches : ℕ → ℕ → Call
  removes : ℕ → Call

pub data Answer : Type 0 where
  told : Said (Unit {0}) → Answer
  handed : Said Entry → Answer

-- ---- on an area
abbrev pub answer : List ℕ → Call → Answer
answer a (adds n p s) = told (add_said a n p s)
answer a (fetches n room) = handed (fetch_said a n room)
answer a (removes n) = told (remove_said a n)

abbrev pub after : List ℕ → Call → List ℕ
after a (adds n p s) = add_after a n p s
after a (fetches n room) = a
after a (removes n) = remove_after a n

unfoldable pub answers : List ℕ → List Call → List Answer
answers a [] = []
answers a (c ∷ cs) = answer a c ∷ answers (after a c) cs

-- the area after them all
unfoldable pub run : List ℕ → List Call → List ℕ
run a [] = a
run a (c ∷ cs) = run (after a c) cs

-- ---- on a map: entries by number
pub record Kept : Type 0 where
  pub number : ℕ
  pub entry : Entry

unfoldable pub found : ℕ → List Kept → Option Entry
found n [] = none
found n (x ∷ m) = cond (eqb n x.number) (some x.entry) (found n m)

abbrev pub without : ℕ → List Kept → List Kept
without n m = keep (λ x. not (eqb n x.number)) m

-- how many blocks an entry takes, and all of them
abbrev pub blocks_of : Entry → ℕ
blocks_of e = blocks_for (length (positions_of e.placement ++ e.line))

unfoldable pub blocks_taken : List Kept → ℕ
blocks_taken [] = 0
blocks_taken (x ∷ m) = blocks_of x.entry + blocks_taken m

-- the map after adding: the line's own refusals, 18, 23, 24 where its k blocks would not be enough; what is kept is the placement and the canonical line
abbrev pub room_in : ℕ → List Kept → Kept → Said (List Kept)
room_in k m x = cond (ltb k (blocks_taken m + blocks_of x.entry)) (refuses 24 0) (good (x ∷ m))

abbrev pub map_adds : ℕ → List Kept → ℕ → List ℕ → Outcome → Said (List Kept)
map_adds k m n p (refused number place) = refuses number place
map_adds k m n p (accepted l) =
    cond (allowed (floating_of l) p)
    (given (found n m) (λ e. refuses 23 0) (room_in k m (record { number = n; entry = record { placement = p; line = canonical l } })))
    (refuses 18 0)

abbrev pub map_removes : List Kept → ℕ → Said (List Kept)
map_removes m n = given (found n m) (λ e. good (without n m)) (refuses 22 0)

abbrev pub map_fetches : List Kept → ℕ → ℕ → Said Entry
map_fetches m n room =
    given (found n m) (λ e. cond (ltb room (length e.line)) (refuses 15 (length e.line)) (good e)) (refuses 22 0)

-- whether it was changed, and the map then
abbrev pub changed : Said (List Kept) → Said (Unit {0})
changed (good m) = good tt
changed (refuses number place) = refuses number place

abbrev pub map_left : List Kept → Said (List Kept) → List Kept
map_left m (good new) = new
map_left m (refuses number place) = m

abbrev pub map_answer : ℕ → List Kept → Call → Answer
map_answer k m (adds n p s) = told (changed (map_adds k m n p (outcome s)))
map_answer k m (fetches n room) = handed (map_fetches m n room)
map_answer k m (removes n) = told (changed (map_removes m n))

abbrev pub map_after : ℕ → List Kept → Call → List Kept
map_after k m (adds n p s) = map_left m (map_adds k m n p (outcome s))
map_after k m (fetches n room) = m
map_after k m (removes n) = map_left m (map_removes m n)

unfoldable pub map_answers : ℕ → List Kept → List Call → List Answer
map_answers k m [] = []
map_answers k m (c ∷ cs) = map_answer k m c ∷ map_answers k (map_after k m c) cs

-- an entry number is one of four bytes
abbrev pub Numbered : Call → Type 0
Numbered (adds n p s) = n < 2 ^ 32
Numbered (fetches n room) = n < 2 ^ 32
Numbered (removes n) = n < 2 ^ 32

unfoldable pub AllNumbered : List Call → Type 0
AllNumbered [] = Unit {0}
AllNumbered (c ∷ cs) = Numbered c × AllNumbered cs
