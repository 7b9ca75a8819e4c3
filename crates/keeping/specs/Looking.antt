-- What is found under a number.
use Rattle.std.specs.Prelude.{ℕ, ◌≤◌, ◌<◌, ◌≡◌, List, take, Option, Result, MatchOption, MatchResult}
use Rattle.scope.specs.declared.refusals.Refusal.{Refusal}
use Rattle.scope.specs.Answers.{refuses, reason_number}
use Rattle.basics.specs.Each.{Each}
use Rattle.blocks.specs.Block.{new_kind}
use Rattle.blocks.specs.Area.{blocks_in}
use Rattle.blocks.specs.Entry.{position_bytes, entry_in, Looked, absent, damaged, present, starting_at, look}
use Rattle.chains.specs.declared.borrowed.Chain.{Chain}

-- a refusal is of this number and place
abbrev pub Refuses : ℕ → ℕ → Refusal → Type 0
Refuses number place e = (reason_number e.reason ≡ number) × (e.place ≡ place)

-- an entry in the blocks of a chain, its content in a room
pub record Found (a : List ℕ) (looked : Looked) (c : Chain) (room : List ℕ) : Type 0 where
  pub is : looked ≡ present (take c.many c.row) (entry_in new_kind (take c.long room))
  pub some : position_bytes new_kind ≤ c.long
  pub inside : Each (λ b. b < blocks_in a) (take c.many c.row)

-- from a first block on: an entry, or 25
abbrev pub StartSays : List ℕ → ℕ → ℕ → Result Chain Refusal → List ℕ → Type 0
StartSays a number b r room = MatchResult r (λ c. Found a (starting_at a number b) c room) (λ e. (starting_at a number b ≡ damaged) × Refuses 25 0 e)

-- under a number: an entry, none, or 25
abbrev pub LookSays : List ℕ → ℕ → Result (Option Chain) Refusal → List ℕ → Type 0
LookSays a number r room =
    MatchResult r (λ o. MatchOption o (look a number ≡ absent) (λ c. Found a (look a number) c room)) (λ e. (look a number ≡ damaged) × Refuses 25 0 e)

-- an entry that has to be there: or 22
pub data Missing (a : List ℕ) (number : ℕ) (e : Refusal) : Type 0 where
  is_absent : look a number ≡ absent → Refuses 22 0 e → Missing a number e
  is_damaged : look a number ≡ damaged → Refuses 25 0 e → Missing a number e

abbrev pub FindSays : List ℕ → ℕ → Result Chain Refusal → List ℕ → Type 0
FindSays a number r room = MatchResult r (λ c. Found a (look a number) c room) (Missing a number)
