-- "The limits stand once, with the type they belong to". Here each is a name for its number; the types of src/ have them as associated constants.
use Rattle.std.specs.Prelude.{ℕ, ◌+◌, ◌*◌}

-- "line 1 to 4,096 bytes"
abbrev pub line_limit : ℕ
line_limit = 4096

-- "residues 1 to 254"
abbrev pub residue_limit : ℕ
residue_limit = 254

-- "brackets, square and curly together, 64"
abbrev pub bracket_limit : ℕ
bracket_limit = 64

-- "parts in a bracket 4"
abbrev pub part_limit : ℕ
part_limit = 4

-- "text of a part, after key or prefix, 128 bytes"
abbrev pub text_limit : ℕ
text_limit = 128

-- "label 16"
abbrev pub label_limit : ℕ
label_limit = 16

-- "pairs within a text 8 deep"
abbrev pub depth_limit : ℕ
depth_limit = 8

-- "a mass or score below 1,000,000 in size"
abbrev pub size_limit : ℕ
size_limit = 1000000

-- "with at most 6 decimals"
abbrev pub decimal_limit : ℕ
decimal_limit = 6

-- "count 1 to 99"
abbrev pub count_limit : ℕ
count_limit = 99

-- "floating copies 8"
abbrev pub copy_limit : ℕ
copy_limit = 8

-- "up to eight declarations" (02, L2)
abbrev pub declaration_limit : ℕ
declaration_limit = 8

-- "of up to 16 places" (02, L2)
abbrev pub place_limit : ℕ
place_limit = 16

-- "one entry for each of the 256 positions": the N-terminus, the residues, the C-terminus
abbrev pub position_limit : ℕ
position_limit = residue_limit + 2

-- "room is 2,048 rows": a row for each floating copy and position
abbrev pub row_limit : ℕ
row_limit = copy_limit * position_limit

-- "at most 128 blocks of 512 bytes" (02, L5)
abbrev pub block_size : ℕ
block_size = 512

abbrev pub block_limit : ℕ
block_limit = 128
