-- What the tests of one block decide, over its bytes; and what is written before its content.
use Rattle.std.specs.Prelude.{ℕ, Bool, ◌&&◌, ◌||◌, List, ◌∷◌, ◌++◌, eqb}
use Rattle.blocks.specs.LowFirst.{low_first}
use Rattle.blocks.specs.Block.{used_size, number_size, content_room, block_kind, used_length, entry_number, is_last, is_padded, is_sound}

-- "every block but an entry's last full"
abbrev pub full_or_last : List ℕ → Bool
full_or_last x = is_last x || eqb (used_length x) content_room

-- `links` of an area, by the bytes of the block: in an area of n blocks, with an entry's number, of this kind
abbrev pub links_as : ℕ → ℕ → ℕ → List ℕ → Bool
links_as n number kind x = eqb (block_kind x) kind && (eqb (entry_number x) number && is_sound n x) && is_padded x && full_or_last x

-- what stands before the content
abbrev pub front_of : ℕ → ℕ → ℕ → ℕ → List ℕ
front_of kind used next number = (kind ∷ low_first used_size used) ++ (next ∷ low_first number_size number)
