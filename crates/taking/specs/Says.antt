-- What is answered of free blocks, and what is asked of blocks that are written to.
use Rattle.std.specs.Prelude.{ℕ, zero, suc, ◌≤◌, ◌<◌, ◌≡◌, List, length, take, Option, MatchOption}
use Rattle.basics.specs.Each.{Each}
use Rattle.blocks.specs.Block.{further_kind, new_kind}
use Rattle.blocks.specs.Area.{blocks_in, frees}

-- the kind of an entry's block k: its first, or a further one
abbrev pub kind_of : ℕ → ℕ
kind_of zero = new_kind
kind_of (suc k) = further_kind

-- these blocks are blocks of the area
abbrev pub Inside : List ℕ → List ℕ → Type 0
Inside a blocks = Each (λ b. b < blocks_in a) blocks

-- as many of the lowest free blocks as are needed, at the front of a row
pub record LowestFree (a : List ℕ) (need : ℕ) (row : List ℕ) : Type 0 where
  pub enough : need ≤ length (frees a)
  pub lowest : take need row ≡ take need (frees a)
  pub inside : Inside a (take need row)

-- the same, or there are fewer
abbrev pub FreesAre : List ℕ → ℕ → Option (List ℕ) → Type 0
FreesAre a need r = MatchOption r (length (frees a) < need) (LowestFree a need)
