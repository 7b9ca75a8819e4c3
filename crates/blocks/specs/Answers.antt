-- What each call over an area of blocks answers, and what it leaves in the area.
use Rattle.std.specs.Prelude.{ℕ, suc, ◌+◌, ◌-◌, ◌*◌, ◌/◌, Bool, not, cond, ◌&&◌, ◌||◌, List, [], ◌∷◌, ◌++◌, map, eqb, ltb, length, take, replicate}
use Rattle.scope.specs.Lists.{given, keep, first_in, part, tabled, laid}
use Rattle.scope.specs.Limits.{copy_limit}
use Rattle.scope.specs.Refusals.{outcome}
use Rattle.scope.specs.Answers.{Said, good, refuses, met}
use Rattle.blocks.specs.declared.Fetched.{Fetched}
use Rattle.blocks.specs.declared.Listed.{Listed}
use Rattle.blocks.specs.declared.Survey.{Survey}
use Rattle.blocks.specs.Block.{content_room, free_kind, further_kind, is_first, new_kind, no_next, block_kind, entry_number, free_block, entry_block}
use Rattle.blocks.specs.Area.{blocks_in, whole_blocks, block_at, block_numbers, sound_at, is_free, frees, times, Put, replaced}
use Rattle.blocks.specs.Entry.{Entry, content_for, Looked, absent, damaged, present, look}

-- "then come 26, ..": a call that goes by whole blocks
abbrev pub over_blocks : {A : Type 0} → List ℕ → Said A → Said A
over_blocks a said = cond (whole_blocks a) said (refuses 26 0)

-- the area after a call: changed by a success
abbrev pub area_after : {A : Type 0} → Said A → List ℕ → List ℕ → List ℕ
area_after (good x) new old = new
area_after (refuses number place) new old = old

-- ---- "One call makes an empty area."
abbrev pub empty_said : List ℕ → Said (Unit {0})
empty_said a = over_blocks a (good tt)

abbrev pub empty_after : List ℕ → List ℕ
empty_after a = area_after (empty_said a) (times (blocks_in a) free_block) a

-- ---- fetch: "26, 25, 22 .., and 15 last", at the length needed
abbrev pub fetched : Looked → ℕ → Said Entry
fetched absent room = refuses 22 0
fetched damaged room = refuses 25 0
fetched (present bs e) room = cond (ltb room (length e.line)) (refuses 15 (length e.line)) (good e)

unfoldable pub fetch_said : List ℕ → ℕ → ℕ → Said Entry
fetch_said a number room = over_blocks a (fetched (look a number) room)

-- the length of the line that was fetched; with the placement beside it; and the output
abbrev pub fetched_length : Said Entry → Said ℕ
fetched_length (good e) = good (length e.line)
fetched_length (refuses number place) = refuses number place

abbrev pub fetched_as : Entry → Fetched
fetched_as e = record { size = length e.line; at = e.placement }

abbrev pub out_after : Said Entry → List ℕ → List ℕ
out_after (good e) out = laid e.line out
out_after (refuses number place) out = out

-- ---- remove: 26, 25, 22
abbrev pub removed : Looked → Said (List ℕ)
removed absent = refuses 22 0
removed damaged = refuses 25 0
removed (present bs e) = good bs

-- the blocks of the entry that goes
unfoldable pub removing : List ℕ → ℕ → Said (List ℕ)
removing a number = over_blocks a (removed (look a number))

abbrev pub remove_said : List ℕ → ℕ → Said (Unit {0})
remove_said a number = met (removing a number)

-- blocks made free
abbrev pub freed : List ℕ → List Put
freed bs = map (λ b. record { block = b; bytes = free_block }) bs

abbrev pub removed_from : List ℕ → Said (List ℕ) → List ℕ
removed_from a (good bs) = replaced (freed bs) a
removed_from a (refuses number place) = a

abbrev pub remove_after : List ℕ → ℕ → List ℕ
remove_after a number = removed_from a (removing a number)

-- ---- add: "Adding tries the line's own refusals and 18 first; then come 26, 25, 22 to 24"
-- how many blocks a content of so many bytes takes, and what each holds: "every block but an entry's last full"
abbrev pub blocks_for : ℕ → ℕ
blocks_for m = (m + (content_room - 1)) / content_room

abbrev pub pieces : List ℕ → List (List ℕ)
pieces c = tabled (λ k. part (content_room * k) content_room c) 0 (blocks_for (length c))

abbrev pub next_in : List ℕ → ℕ
next_in [] = no_next
next_in (b ∷ bs) = b

-- each piece in its block, with the next one's number
unfoldable pub written : ℕ → ℕ → List (List ℕ) → List ℕ → List Put
written number kind [] bs = []
written number kind (c ∷ cs) [] = []
written number kind (c ∷ cs) (b ∷ bs) = record { block = b; bytes = entry_block kind number (next_in bs) c } ∷ written number further_kind cs bs

-- 23 "entry present", 24 "fewer free sound blocks than needed"; "Blocks are taken lowest free first": the blocks for a content that needs so many
abbrev pub room_for : Looked → List ℕ → ℕ → Said (List ℕ)
room_for absent free need = cond (ltb (length free) need) (refuses 24 0) (good (take need free))
room_for damaged free need = refuses 25 0
room_for (present bs e) free need = refuses 23 0

unfoldable pub placing : List ℕ → ℕ → ℕ → Said (List ℕ)
placing a number need = over_blocks a (room_for (look a number) (frees a) need)

-- what is put where, of a content
abbrev pub putting : List ℕ → ℕ → List ℕ → Said (List ℕ) → Said (List Put)
putting a number c (good bs) = good (written number new_kind (pieces c) bs)
putting a number c (refuses m place) = refuses m place

abbrev pub adding_of : List ℕ → ℕ → Said (List ℕ) → Said (List Put)
adding_of a number (good c) = putting a number c (placing a number (blocks_for (length c)))
adding_of a number (refuses m place) = refuses m place

unfoldable pub adding : List ℕ → ℕ → List ℕ → List ℕ → Said (List Put)
adding a number p s = adding_of a number (content_for (outcome s) p)

abbrev pub add_said : List ℕ → ℕ → List ℕ → List ℕ → Said (Unit {0})
add_said a number p s = met (adding a number p s)

abbrev pub added_to : List ℕ → Said (List Put) → List ℕ
added_to a (good ps) = replaced ps a
added_to a (refuses number place) = a

abbrev pub add_after : List ℕ → ℕ → List ℕ → List ℕ → List ℕ
add_after a number p s = added_to a (adding a number p s)

-- ---- the listing: the first sound first block from one on; 26, 17
unfoldable pub is_head : List ℕ → ℕ → Bool
is_head a b = is_first (block_kind (block_at a b)) && sound_at a b

abbrev pub heads : List ℕ → ℕ → List ℕ
heads a from = keep (is_head a) (tabled (λ b. b) from (blocks_in a - from))

abbrev pub head_at : List ℕ → ℕ → Listed
head_at a b = record { block = b; number = entry_number (block_at a b) }

unfoldable pub listed_from : List ℕ → ℕ → Said Listed
listed_from a from = over_blocks a (given (first_in (heads a from)) (λ b. good (head_at a b)) (refuses 17 0))

-- ---- the survey: how many blocks are of each sort; 26
abbrev pub how_many : (ℕ → Bool) → List ℕ → ℕ
how_many test a = length (keep test (block_numbers a))

unfoldable pub is_of_kind : List ℕ → ℕ → ℕ → Bool
is_of_kind a kind b = eqb (block_kind (block_at a b)) kind && sound_at a b

unfoldable pub is_other : List ℕ → ℕ → Bool
is_other a b =
    not (eqb (block_kind (block_at a b)) free_kind || is_first (block_kind (block_at a b)) || eqb (block_kind (block_at a b)) further_kind) && sound_at a b

unfoldable pub counts_of : List ℕ → Survey
counts_of a =
    record {
      free = how_many (is_free a) a;
      first = how_many (is_head a) a;
      further = how_many (is_of_kind a further_kind) a;
      other = how_many (is_other a) a;
      unsound = how_many (λ b. not (sound_at a b)) a;
    }

abbrev pub survey_said : List ℕ → Said Survey
survey_said a = over_blocks a (good (counts_of a))
