-- Bytes, by the names that the other definitions use.
use Rattle.std.specs.Prelude.{ℕ, ◌-◌, ◌*◌, Bool, true, false, cond, ◌&&◌, ◌||◌, List, [], ◌∷◌, leb, eqb}
use Prim.Native.String.{String, [] as []ˢ, ◌∷◌ as ◌∷ˢ◌}
use Prim.Native.Char.{code}

-- how many values a byte has
abbrev pub byte_limit : ℕ
byte_limit = 256

-- and two bytes
abbrev pub wide_limit : ℕ
wide_limit = byte_limit * byte_limit

-- the bytes of a text in quotes
abbrev pub bytes : String → List ℕ
bytes []ˢ = []
bytes (c ∷ˢ s) = code c ∷ bytes s

-- [ ] { } ( ) and the rest that has a meaning of its own
abbrev pub open_square : ℕ
open_square = 91

abbrev pub shut_square : ℕ
shut_square = 93

abbrev pub open_curly : ℕ
open_curly = 123

abbrev pub shut_curly : ℕ
shut_curly = 125

abbrev pub open_round : ℕ
open_round = 40

abbrev pub shut_round : ℕ
shut_round = 41

abbrev pub bar : ℕ
bar = 124

abbrev pub hash : ℕ
hash = 35

abbrev pub colon : ℕ
colon = 58

abbrev pub caret : ℕ
caret = 94

abbrev pub question : ℕ
question = 63

abbrev pub plus : ℕ
plus = 43

abbrev pub dash : ℕ
dash = 45

abbrev pub dot : ℕ
dot = 46

abbrev pub comma : ℕ
comma = 44

abbrev pub open_angle : ℕ
open_angle = 60

abbrev pub shut_angle : ℕ
shut_angle = 62

abbrev pub at_sign : ℕ
at_sign = 64

-- "a byte outside 32 to 126" is no byte of a line
abbrev pub is_printable : ℕ → Bool
is_printable b = leb 32 b && leb b 126

abbrev pub is_upper : ℕ → Bool
is_upper b = leb 65 b && leb b 90

abbrev pub is_lower : ℕ → Bool
is_lower b = leb 97 b && leb b 122

-- "one-letter residues (all 26 letters ..)", in either case
abbrev pub is_letter : ℕ → Bool
is_letter b = is_upper b || is_lower b

abbrev pub is_digit : ℕ → Bool
is_digit b = leb 48 b && leb b 57

-- the value of a digit
abbrev pub value : ℕ → ℕ
value b = b - 48

-- "letters and digits"
abbrev pub is_alnum : ℕ → Bool
is_alnum b = is_letter b || is_digit b

abbrev pub is_sign : ℕ → Bool
is_sign b = eqb b plus || eqb b dash

-- "the pairs are `[]` and `{}`"
abbrev pub is_opening : ℕ → Bool
is_opening b = eqb b open_square || eqb b open_curly

abbrev pub is_shutting : ℕ → Bool
is_shutting b = eqb b shut_square || eqb b shut_curly

-- the byte that closes a pair
abbrev pub closer_of : ℕ → ℕ
closer_of b = cond (eqb b open_square) shut_square shut_curly

-- a to z as A to Z
unfoldable pub upper : ℕ → ℕ
upper b = cond (is_lower b) (b - 32) b

-- "matched in either case"
unfoldable pub same_folded : List ℕ → List ℕ → Bool
same_folded [] [] = true
same_folded [] (y ∷ m) = false
same_folded (x ∷ l) [] = false
same_folded (x ∷ l) (y ∷ m) = eqb (upper x) (upper y) && same_folded l m
