-- The sorts of blocks that a survey counts, by number, and how many of the first so many blocks are of a sort.
use Rattle.std.specs.Prelude.{ℕ, ◌<◌, ◌≡◌, cond, List, eqb, length, get_or}
use Rattle.scope.specs.Lists.{keep, tabled}
use Rattle.blocks.specs.Block.{free_kind, further_kind, is_first, block_kind}
use Rattle.blocks.specs.Area.{block_at, sound_at}
use Rattle.keeping.specs.declared.sorts.Sort.{Sort}
use Rattle.keeping.specs.declared.sorts.Sort.TheVariants.{Unsound, Free, First, Further, Other}

abbrev pub unsound_sort : ℕ
unsound_sort = 0

abbrev pub free_sort : ℕ
free_sort = 1

abbrev pub first_sort : ℕ
first_sort = 2

abbrev pub further_sort : ℕ
further_sort = 3

-- of no such kind
abbrev pub other_sort : ℕ
other_sort = 4

-- how many sorts there are
abbrev pub sort_many : ℕ
sort_many = 5

-- the number of a sort
abbrev pub sort_number : Sort → ℕ
sort_number Unsound = unsound_sort
sort_number Free = free_sort
sort_number First = first_sort
sort_number Further = further_sort
sort_number Other = other_sort

-- the sort of a sound block of a kind, and of block b
abbrev pub kind_sort : ℕ → ℕ
kind_sort kind = cond (eqb kind free_kind) free_sort (cond (is_first kind) first_sort (cond (eqb kind further_kind) further_sort other_sort))

unfoldable pub sort_at : List ℕ → ℕ → ℕ
sort_at a b = cond (sound_at a b) (kind_sort (block_kind (block_at a b))) unsound_sort

-- of the first n blocks, how many are of a sort
unfoldable pub of_sort : List ℕ → ℕ → ℕ → ℕ
of_sort a n sort = length (keep (λ b. eqb (sort_at a b) sort) (tabled (λ b. b) 0 n))

-- counted, each at its number
pub record Counted (a : List ℕ) (n : ℕ) (of : List ℕ) : Type 0 where
  pub long : length of ≡ sort_many
  pub are : (sort : ℕ) → sort < sort_many → get_or of sort 0 ≡ of_sort a n sort
