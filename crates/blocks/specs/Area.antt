-- An area of blocks.
use Rattle.std.specs.Prelude.{ℕ, zero, suc, ◌+◌, ◌*◌, ◌/◌, ◌%◌, Bool, ◌&&◌, List, [], ◌∷◌, ◌++◌, eqb, leb, length, take, drop}
use Rattle.scope.specs.Lists.{all, keep, part, tabled}
use Rattle.scope.specs.Limits.{block_size, block_limit}
use Rattle.blocks.specs.Block.{free_kind, is_first, block_kind, entry_number, is_sound}

-- how many blocks an area has
abbrev pub blocks_in : List ℕ → ℕ
blocks_in a = length a / block_size

-- 26 "the area isn't 1 to 128 whole blocks"
unfoldable pub whole_blocks : List ℕ → Bool
whole_blocks a = eqb (length a % block_size) 0 && leb 1 (blocks_in a) && leb (blocks_in a) block_limit

unfoldable pub block_at : List ℕ → ℕ → List ℕ
block_at a b = part (block_size * b) block_size a

-- its blocks, by number
abbrev pub block_numbers : List ℕ → List ℕ
block_numbers a = tabled (λ b. b) 0 (blocks_in a)

unfoldable pub sound_at : List ℕ → ℕ → Bool
sound_at a b = is_sound (blocks_in a) (block_at a b)

unfoldable pub all_sound : List ℕ → Bool
all_sound a = all (sound_at a) (block_numbers a)

-- block b is sound, and has the entry's number
unfoldable pub carries : List ℕ → ℕ → ℕ → Bool
carries a number b = eqb (entry_number (block_at a b)) number && sound_at a b

-- the sound first blocks of an entry, in order
unfoldable pub firsts : List ℕ → ℕ → List ℕ
firsts a number = keep (λ b. is_first (block_kind (block_at a b)) && carries a number b) (block_numbers a)

-- block b is sound, and free
unfoldable pub is_free : List ℕ → ℕ → Bool
is_free a b = eqb (block_kind (block_at a b)) free_kind && sound_at a b

-- the free sound blocks, lowest first
unfoldable pub frees : List ℕ → List ℕ
frees a = keep (is_free a) (block_numbers a)

-- ---- blocks put anew
-- so many times the same bytes
unfoldable pub times : ℕ → List ℕ → List ℕ
times zero x = []
times (suc n) x = x ++ times n x

pub record Put : Type 0 where
  pub block : ℕ
  pub bytes : List ℕ

abbrev pub put_at : ℕ → List ℕ → List ℕ → List ℕ
put_at at x a = take at a ++ (x ++ drop (at + length x) a)

-- an area with blocks put anew, one after another
unfoldable pub replaced : List Put → List ℕ → List ℕ
replaced [] a = a
replaced (p ∷ ps) a = replaced ps (put_at (block_size * p.block) p.bytes a)
