-- What the exported calls over an area of blocks leave: the number, and each out-parameter and lent slice.
use Rattle.std.specs.Prelude.{ℕ, ◌≡◌, cond, List, ltb, length, take}
use Rattle.scope.specs.Limits.{copy_limit}
use Rattle.scope.specs.Lists.{laid}
use Rattle.scope.specs.Answers.{Said, refuses}
use Rattle.blocks.specs.Area.{Put}
use Rattle.blocks.specs.Entry.{Entry}
use Rattle.blocks.specs.Answers.{empty_said, empty_after, fetch_said, fetched_length, out_after, remove_said, remove_after, adding, added_to}
use Rattle.export.specs.Numbers.{number_of, left, Numbered}
use Rattle.export.specs.Shapes.{Measured}
use Rattle.blocks.specs.declared.Listed.{Listed}
use Rattle.blocks.specs.declared.Survey.{Survey}

pub record EmptyHanded (a : List ℕ) (number : ℕ) (a' : List ℕ) : Type 0 where
  pub number_is : number ≡ number_of (empty_said a)
  pub area_after_is : a' ≡ empty_after a

-- a placement is lent as a slice, of which the first eight entries count; a shorter one is refused 13
abbrev pub adds_lent : List ℕ → ℕ → List ℕ → List ℕ → Said (List Put)
adds_lent a n p s = cond (ltb (length p) copy_limit) (refuses 13 0) (adding a n (take copy_limit p) s)

pub record EntryAdded (a : List ℕ) (said : Said (List Put)) (place number place' : ℕ) (a' : List ℕ) : Type 0 where
  pub numbered : Numbered said place number place'
  pub area_after_is : a' ≡ added_to a said

abbrev pub AddHanded : List ℕ → ℕ → List ℕ → List ℕ → ℕ → ℕ → ℕ → List ℕ → Type 0
AddHanded a n p s = EntryAdded a (adds_lent a n p s)

-- a placement is handed out into a lent slice, of which a shorter one is refused 13
abbrev pub fetches_lent : List ℕ → ℕ → List ℕ → List ℕ → Said Entry
fetches_lent a n p out = cond (ltb (length p) copy_limit) (refuses 13 0) (fetch_said a n (length out))

-- what was fetched, handed out: its length, with 15 the length needed, the placement and the output
pub record EntryFetched (said : Said Entry) (p out : List ℕ) (count number : ℕ) (p' out' : List ℕ) (count' : ℕ) : Type 0 where
  pub measured : Measured (fetched_length said) count number count'
  pub placement_after : p' ≡ left said (λ e. laid e.placement p) p
  pub output_after_is : out' ≡ out_after said out

abbrev pub FetchHanded : List ℕ → ℕ → List ℕ → List ℕ → ℕ → ℕ → List ℕ → List ℕ → ℕ → Type 0
FetchHanded a n p out = EntryFetched (fetches_lent a n p out) p out

pub record RemoveHanded (a : List ℕ) (n number : ℕ) (a' : List ℕ) : Type 0 where
  pub number_is : number ≡ number_of (remove_said a n)
  pub area_after_is : a' ≡ remove_after a n

-- an entry of the listing: its first block, and its number
pub record HeadHanded (said : Said Listed) (block entry number block' entry' : ℕ) : Type 0 where
  pub number_is : number ≡ number_of said
  pub block_is : block' ≡ left said (λ h. h.block) block
  pub entry_is : entry' ≡ left said (λ h. h.number) entry

-- how many blocks are of each sort
pub record Surveyed (said : Said Survey) (free first further other unsound number free' first' further' other' unsound' : ℕ) : Type 0 where
  pub number_is : number ≡ number_of said
  pub free_is : free' ≡ left said (λ c. c.free) free
  pub first_is : first' ≡ left said (λ c. c.first) first
  pub further_is : further' ≡ left said (λ c. c.further) further
  pub other_is : other' ≡ left said (λ c. c.other) other
  pub unsound_is : unsound' ≡ left said (λ c. c.unsound) unsound
