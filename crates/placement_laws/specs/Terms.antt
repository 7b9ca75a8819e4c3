-- The words that the laws of placements are said in.
use Rattle.std.specs.Prelude.{◌≡◌, ◌⊎◌, Bool, true, false, List, [], ◌∷◌, ◌++◌, ℕ, zero, suc, ◌≤◌, ◌<◌, length, get_or}
use Rattle.std.proofs.Math.Option.{Option, none, some}
use Rattle.scope.specs.declared.answers.Listing.{Listing}
use Rattle.scope.specs.Limits.{copy_limit}
use Rattle.scope.specs.Lists.{member}
use Rattle.scope.specs.Line.{Line}
use Rattle.scope.specs.Positions.{floaters, floaters_by, brackets_of, Floating}
use Rattle.scope.specs.Placements.{allowed, less}
use Rattle.scope.specs.Answers.{Said, good, refuses, requested, moved_on}
use Rattle.basics.specs.Each.{Each, In, Ordered}
use Rattle.placement_laws.specs.Standing.{place, Ascent, Alike}

-- a list of positions, each below all behind it
abbrev pub Rising : List ℕ → Type 0
Rising l = Ordered ◌<◌ l

abbrev pub AllRising : List (List ℕ) → Type 0
AllRising qs = Each Rising qs

-- floater s may stand at x; it is a further copy
abbrev pub may_stand_at : Floating → ℕ → ℕ → Bool
may_stand_at f s x = member x (get_or f.lists s [])

abbrev pub marked : Floating → ℕ → Bool
marked f s = get_or f.marks s false

-- what floats: few copies, each with its positions in rising order, and copies of one bracket alike
pub record Orderly (f : Floating) : Type 0 where
  pub few : length f.lists ≤ copy_limit
  pub rising : AllRising f.lists
  pub alike : Alike (may_stand_at f) (marked f) (length f.lists)

-- the same without the rule on copies
abbrev pub unmarked : Floating → Floating
unmarked f = record { lists = f.lists; marks = [] }

-- a list of placements, each less than all behind it
abbrev pub Ascending : List (List ℕ) → Type 0
Ascending l = Ordered (λ p q. less p q ≡ true) l

abbrev pub Allowed : Floating → List ℕ → Type 0
Allowed f p = allowed f p ≡ true

-- each floater at one of its permitted positions, no position twice, the copies of one bracket ascending; "unused ones 0"
pub record Placing (f : Floating) (p : List ℕ) : Type 0 where
  pub eight : length p ≡ copy_limit
  pub permitted : (i : ℕ) → i < length f.lists → In (get_or p i 0) (get_or f.lists i [])
  pub apart : (i j : ℕ) → i < length f.lists → j < length f.lists → get_or p i 0 ≡ get_or p j 0 → i ≡ j
  pub ascent : Ascent (marked f) (length f.lists) (place p)
  pub unused : (i : ℕ) → length f.lists ≤ i → get_or p i 0 ≡ 0

-- the bracket, by its number, that floating copy s of a line is of
abbrev pub bracket_at : {P : Type 0} → Line P → ℕ → ℕ
bracket_at t s = get_or (brackets_of (floaters_by t)) s 0

-- s and r are copies of one bracket: above the lower of them, up to the higher, all are further copies
abbrev pub OneRun : Floating → ℕ → ℕ → Type 0
OneRun f s r = ((t : ℕ) → s < t → t ≤ r → marked f t ≡ true) × ((t : ℕ) → r < t → t ≤ s → marked f t ≡ true)

-- q has each floater where p has a copy of the same bracket
abbrev pub Reordered : Floating → List ℕ → List ℕ → Type 0
Reordered f p q = (s : ℕ) → s < length f.lists → (r : ℕ) × (r < length f.lists) × OneRun f s r × (place q s ≡ place p r)

-- q has each floater of a line where p has a copy of the same bracket
abbrev pub Rearranged : {P : Type 0} → Line P → List ℕ → List ℕ → Type 0
Rearranged t p q = (s : ℕ) → s < length (floaters t) → (r : ℕ) × (r < length (floaters t)) × (bracket_at t s ≡ bracket_at t r) × (place q s ≡ place p r)

-- allowed, and above p
abbrev pub Further : Floating → List ℕ → List ℕ → Type 0
Further f p q = Allowed f q × (less p q ≡ true)

-- the least list of those with P; none exactly where there is none
abbrev pub Least : (List ℕ → Type 0) → Option (List ℕ) → Type 0
Least P none = (q : List ℕ) → P q → ⊥
Least P (some p) = P p × ((q : List ℕ) → P q → (p ≡ q) ⊎ (less p q ≡ true))

-- ---- requests in a row: the record after n of them, and what they hand out
unfoldable pub after_requests : Floating → ℕ → Listing → Listing
after_requests f zero r = r
after_requests f (suc n) r = after_requests f n (moved_on r (requested f r))

abbrev pub out_of : Said (List ℕ) → List (List ℕ)
out_of (good p) = p ∷ []
out_of (refuses number place) = []

unfoldable pub handed_out : Floating → ℕ → Listing → List (List ℕ)
handed_out f zero r = []
handed_out f (suc n) r = out_of (requested f r) ++ handed_out f n (moved_on r (requested f r))
