-- What the steps of adding and fetching leave.
use Rattle.std.specs.Prelude.{ℕ, ◌≡◌, cond, List, ltb, length, Result}
use Rattle.scope.specs.declared.refusals.Refusal.{Refusal}
use Rattle.scope.specs.Answers.{Said, good, refuses, says as said_by, met, of_good}
use Rattle.blocks.specs.declared.Fetched.{Fetched}
use Rattle.blocks.specs.Block.{new_kind}
use Rattle.blocks.specs.Area.{Put, frees}
use Rattle.blocks.specs.Entry.{Entry, entry_in, absent}
use Rattle.blocks.specs.Answers.{blocks_for, room_for, placing, putting, added_to, fetched_as, out_after}

-- an area was changed by what was to be put, or a refusal left it
pub record Changed (a : List ℕ) (said : Said (List Put)) (r : Result (Unit {0}) Refusal) (a' : List ℕ) : Type 0 where
  pub says : said_by r ≡ met said
  pub area_after_is : a' ≡ added_to a said

-- a content into free blocks, where its number is free
abbrev pub NewSays : List ℕ → ℕ → List ℕ → Result (Unit {0}) Refusal → List ℕ → Type 0
NewSays a number c r a' = Changed a (putting a number c (room_for absent (frees a) (blocks_for (length c)))) r a'

-- a content under a number
abbrev pub ContentAdded : List ℕ → ℕ → List ℕ → Result (Unit {0}) Refusal → List ℕ → Type 0
ContentAdded a number c r a' = Changed a (putting a number c (placing a number (blocks_for (length c)))) r a'

-- what was fetched, handed out
pub record Handed (said : Said Entry) (out : List ℕ) (r : Result Fetched Refusal) (out' : List ℕ) : Type 0 where
  pub says : said_by r ≡ of_good fetched_as said
  pub output_after_is : out' ≡ out_after said out

-- 15, or the entry of a content
abbrev pub entry_said : Entry → ℕ → Said Entry
entry_said e room = cond (ltb room (length e.line)) (refuses 15 (length e.line)) (good e)

abbrev pub HandedOut : List ℕ → List ℕ → Result Fetched Refusal → List ℕ → Type 0
HandedOut c out r out' = Handed (entry_said (entry_in new_kind c) (length out)) out r out'
