-- The register kept in blocks (02, L5): what is promised of its calls, each sentence above its theorem, over what they ensure: `EmptySays`, `AddSays`, `FetchSays`,
-- `RemoveSays`, `EntrySays` (crate keeping). The proofs: proofs/Keeps.antt.
use Rattle.std.specs.Prelude.{◌≡◌, true, false, List, [], ◌∷◌, ◌++◌, ℕ, ◌-◌, ◌/◌, ◌^◌, ◌≤◌, ◌<◌, length, take, get_or, set, Result}
use Rattle.scope.specs.declared.answers.Placement.{Placement}
use Rattle.scope.specs.Bytes.{byte_limit}
use Rattle.scope.specs.Limits.{block_size}
use Rattle.scope.specs.Line.{Line}
use Rattle.scope.specs.Lists.{member, laid}
use Rattle.scope.specs.Refusals.{accepted, outcome}
use Rattle.scope.specs.Canonical.{canonical}
use Rattle.scope.specs.Answers.{Said, good, refuses, of_good, says}
use Rattle.blocks.specs.declared.Fetched.{Fetched}
use Rattle.blocks.specs.declared.Listed.{Listed}
use Rattle.blocks.specs.Area.{blocks_in, frees}
use Rattle.blocks.specs.Entry.{Entry, positions_of, absent, present, look}
use Rattle.blocks.specs.Answers.{blocks_for, is_head}
use Rattle.blocks.specs.Map.{Call, adds, fetches, removes, Answer, told, handed, map_answers, AllNumbered}
use Rattle.block_laws.specs.Listing.{FirstOf, NoneOf}
use Rattle.keeping.specs.Says.{EmptySays, AddSays, FetchSays, RemoveSays, EntrySays}
use Rattle.scope.specs.declared.refusals.Refusal.{Refusal}

-- ---- calls one after another
-- what was fetched: the placement, and the line at the front of the output
abbrev pub entry_fetched : Result Fetched Refusal → List ℕ → Said Entry
entry_fetched r out = of_good (λ f. record { placement = f.at; line = take f.size out }) (says r)

-- a fetch was answered so, into some output with so much room
pub record FetchMade (a : List ℕ) (n room : ℕ) (x : Answer) : Type 0 where
  pub out : List ℕ
  pub long : length out ≡ room
  pub answer : Result Fetched Refusal
  pub out' : List ℕ
  pub ensured : FetchSays a n out answer out'
  pub is : x ≡ handed (entry_fetched answer out')

-- a call was answered as it ensures: the answer, and the area afterwards
abbrev pub CallSays : List ℕ → Call → Answer → List ℕ → Type 0
CallSays a (adds n p s) x a' = (r : Result (Unit {0}) Refusal) × (AddSays a n (record { at = p }) s r a' × (x ≡ told (says r)))
CallSays a (fetches n room) x a' = FetchMade a n room x × (a' ≡ a)
CallSays a (removes n) x a' = (r : Result (Unit {0}) Refusal) × (RemoveSays a n r a' × (x ≡ told (says r)))

abbrev pub CallsSay : List ℕ → List Call → List Answer → List ℕ → Type 0
CallsSay a [] [] a' = a' ≡ a
CallsSay a [] (x ∷ xs) a' = ⊥
CallsSay a (c ∷ cs) [] a' = ⊥
CallsSay a (c ∷ cs) (x ∷ xs) a' = (b : List ℕ) × (CallSays a c x b × CallsSay b cs xs a')

-- "an undamaged area": one that was made empty, and only these calls were made on since; k blocks
pub record Undamaged (k : ℕ) (cs : List Call) (xs : List Answer) (a : List ℕ) : Type 0 where
  pub before : List ℕ
  pub many : blocks_in before ≡ k
  pub answer : Result (Unit {0}) Refusal
  pub made : List ℕ
  pub empties : EmptySays before answer made
  pub success : says answer ≡ good tt
  pub numbered : AllNumbered cs
  pub calls : CallsSay made cs xs a

pub record Keeping : Type 0 where
  -- "Add, fetch and remove by entry number answer as a plain map would, over any sequence of calls on an undamaged area."
  pub as_a_map : (k : ℕ) (cs : List Call) (xs : List Answer) (a : List ℕ) → Undamaged k cs xs a → xs ≡ map_answers k [] cs
  -- what is fetched is what was added: the placement, and the canonical line; whatever area it was added to
  pub fetch_added :
      (a : List ℕ) (n : ℕ) → n < 2 ^ 32 → (p : Placement) (s : List ℕ) (r : Result (Unit {0}) Refusal) (a' : List ℕ) → AddSays a n p s r a' → says r ≡ good tt
      → (l : Line ℕ) → outcome s ≡ accepted l → (out : List ℕ) → length (canonical l) ≤ length out → (r' : Result Fetched Refusal) (out' : List ℕ) → FetchSays a' n out r' out'
      → (says r' ≡ good (record { size = length (canonical l); at = p.at })) × (out' ≡ laid (canonical l) out)
  -- "Blocks are taken lowest free first": what was added lies in the lowest free blocks, in their order
  pub lowest_first :
      (a : List ℕ) (n : ℕ) → n < 2 ^ 32 → (p : Placement) (s : List ℕ) (r : Result (Unit {0}) Refusal) (a' : List ℕ) → AddSays a n p s r a' → says r ≡ good tt
      → (l : Line ℕ) → outcome s ≡ accepted l
      → look a' n ≡ present (take (blocks_for (length (positions_of p.at ++ canonical l))) (frees a)) (record { placement = p.at; line = canonical l })
  -- "freed ones again": what was added and removed leaves the area as it was
  pub back_again :
      (k : ℕ) (cs : List Call) (xs : List Answer) (a : List ℕ) → Undamaged k cs xs a
      → (n : ℕ) → n < 2 ^ 32 → (p : Placement) (s : List ℕ) (r : Result (Unit {0}) Refusal) (a₁ : List ℕ) → AddSays a n p s r a₁ → says r ≡ good tt
      → (q : Result (Unit {0}) Refusal) (a₂ : List ℕ) → RemoveSays a₁ n q a₂ → (says q ≡ good tt) × (a₂ ≡ a)
  -- "After one byte changes, the entries with no block touched are fetched as before and the touched one is refused."
  pub untouched :
      (k : ℕ) (cs : List Call) (xs : List Answer) (a : List ℕ) → Undamaged k cs xs a → (i c : ℕ) → i < length a → c < byte_limit → (c ≡ get_or a i 0 → ⊥)
      → (n : ℕ) (bs : List ℕ) (e : Entry) → look a n ≡ present bs e → member (i / block_size) bs ≡ false
      → (out : List ℕ) (f : Result Fetched Refusal) (out' : List ℕ) → FetchSays (set a i c) n out f out' → FetchSays a n out f out'
  pub touched :
      (k : ℕ) (cs : List Call) (xs : List Answer) (a : List ℕ) → Undamaged k cs xs a → (i c : ℕ) → i < length a → c < byte_limit → (c ≡ get_or a i 0 → ⊥)
      → (n : ℕ) (bs : List ℕ) (e : Entry) → look a n ≡ present bs e → member (i / block_size) bs ≡ true
      → (out : List ℕ) (f : Result Fetched Refusal) (out' : List ℕ) → FetchSays (set a i c) n out f out' → says f ≡ refuses 25 0
  -- and numbers that were not there are refused so, too
  pub absent_then :
      (k : ℕ) (cs : List Call) (xs : List Answer) (a : List ℕ) → Undamaged k cs xs a → (i c : ℕ) → i < length a → c < byte_limit → (c ≡ get_or a i 0 → ⊥)
      → (n : ℕ) → look a n ≡ absent → (out : List ℕ) (f : Result Fetched Refusal) (out' : List ℕ) → FetchSays (set a i c) n out f out' → says f ≡ refuses 25 0
  -- "Copies must show which entries survived": every entry that is fetched is listed, asked for from its first block on; and the listing passes none over
  pub listed :
      (a : List ℕ) (n : ℕ) (out : List ℕ) (f : Result Fetched Refusal) (out' : List ℕ) → FetchSays a n out f out' → (e : Fetched) → says f ≡ good e
      → (b : ℕ) × ((is_head a b ≡ true) × ((r : Result Listed Refusal) → EntrySays a b r → says r ≡ good (record { block = b; number = n })))
  pub none_passed : (a : List ℕ) (from : ℕ) (r : Result Listed Refusal) → EntrySays a from r → (h : Listed) → says r ≡ good h → FirstOf (is_head a) from (blocks_in a - from) h.block
  pub none_left : (a : List ℕ) (from : ℕ) (r : Result Listed Refusal) → EntrySays a from r → says r ≡ refuses 17 0 → NoneOf (is_head a) from (blocks_in a - from)
