-- One block: 512 bytes.
use Rattle.std.specs.Prelude.{ℕ, suc, ◌+◌, ◌-◌, ◌*◌, Bool, ◌&&◌, ◌||◌, List, [], ◌∷◌, ◌++◌, eqb, ltb, leb, length, take, drop, replicate}
use Rattle.scope.specs.Lists.{all, part, padded}
use Rattle.scope.specs.Layout.{byte_at}
use Rattle.blocks.specs.LowFirst.{little, low_first}

-- ---- where things stand
-- "bytes 1 and 2 the used length, 3 the next block .., 4 to 7 the entry number"
abbrev pub used_at : ℕ
used_at = 1

abbrev pub used_size : ℕ
used_size = 2

abbrev pub next_at : ℕ
next_at = 3

abbrev pub number_at : ℕ
number_at = 4

abbrev pub number_size : ℕ
number_size = 4

-- "8 to 507 content"
abbrev pub content_at : ℕ
content_at = 8

abbrev pub content_room : ℕ
content_room = 500

-- "The last four"
abbrev pub sum_at : ℕ
sum_at = content_at + content_room

abbrev pub sum_size : ℕ
sum_size = 4

-- ---- kinds
-- "Byte 0 is the kind (1 free, 2 first of an entry, 3 further)"
abbrev pub free_kind : ℕ
free_kind = 1

abbrev pub first_kind : ℕ
first_kind = 2

abbrev pub further_kind : ℕ
further_kind = 3

-- the kinds of first blocks, and the one that adding writes
abbrev pub is_first : ℕ → Bool
is_first kind = eqb kind first_kind

abbrev pub new_kind : ℕ
new_kind = first_kind

-- "(255 none)"
abbrev pub no_next : ℕ
no_next = 255

-- ---- what a block says
abbrev pub block_kind : List ℕ → ℕ
block_kind x = byte_at x 0

abbrev pub used_length : List ℕ → ℕ
used_length x = little (part used_at used_size x)

abbrev pub next_block : List ℕ → ℕ
next_block x = byte_at x next_at

abbrev pub entry_number : List ℕ → ℕ
entry_number x = little (part number_at number_size x)

abbrev pub content_in : List ℕ → List ℕ
content_in x = part content_at (used_length x) x

-- it is the last of its entry
abbrev pub is_last : List ℕ → Bool
is_last x = eqb (next_block x) no_next

-- "zero past the used length"
unfoldable pub is_padded : List ℕ → Bool
is_padded x = leb (used_length x) content_room && all (eqb 0) (part (content_at + used_length x) (content_room - used_length x) x)

-- ---- the sum
-- "the sum of (i+1) times byte i", from a byte on
unfoldable pub weight : ℕ → List ℕ → ℕ
weight i [] = 0
weight i (b ∷ l) = suc i * b + weight (suc i) l

-- "The last four, low first, are the sum .., i from 0 to 507"
abbrev pub sealed : List ℕ → List ℕ
sealed l = l ++ low_first sum_size (weight 0 l)

-- "A block is sound when this holds for it and its next is in the area or 255": in an area of n blocks
unfoldable pub is_sound : ℕ → List ℕ → Bool
is_sound n x = eqb (little (drop sum_at x)) (weight 0 (take sum_at x)) && (is_last x || ltb (next_block x) n)

-- ---- what is written
-- "A free block holds zeros up to byte 507 apart from its kind and next 255."
unfoldable pub free_block : List ℕ
free_block = sealed (free_kind ∷ 0 ∷ 0 ∷ no_next ∷ replicate (sum_at - number_at) 0)

-- a block of an entry with this content
unfoldable pub entry_block : ℕ → ℕ → ℕ → List ℕ → List ℕ
entry_block kind number next c =
    sealed ((kind ∷ low_first used_size (length c)) ++ ((next ∷ low_first number_size number) ++ padded 0 content_room c))
