-- What each step of writing leaves in the output, and where it ends. "the writer's output may have any length": bytes behind its end are counted
-- and not stored.
use Rattle.std.specs.Prelude.{◌≡◌, List, [], ◌∷◌, ℕ, ◌+◌, ◌*◌, ◌^◌, ◌≤◌, ◌<◌, length, set, Bool, cond}
use Rattle.scope.specs.Bytes.{plus, dash}
use Rattle.scope.specs.Limits.{decimal_limit}
use Rattle.scope.specs.Line.{Number}
use Rattle.scope.specs.Canonical.{decimal, last_digits, mass_text, score_text}

-- the output after a run of bytes was stored from a place on, as far as there is room
unfoldable pub stored : List ℕ → ℕ → List ℕ → List ℕ
stored o at [] = o
stored o at (b ∷ l) = stored (set o at b) (at + 1) l

-- from the place `at` on the text t was put, at most so many bytes; `left` is the output then, and r the place behind
pub record Puts (most : ℕ) (o : List ℕ) (at : ℕ) (t : List ℕ) (left : List ℕ) (r : ℕ) : Type 0 where
  pub holds : left ≡ stored o at t
  pub ends : r ≡ at + length t
  pub near : r ≤ at + most

-- no place of a line is behind this one
abbrev pub ceiling : ℕ
ceiling = 1000000

-- ---- how many bytes each piece has at most
-- a number of 64 bits, without leading zeros
abbrev pub decimal_most : ℕ
decimal_most = 20

-- so many digits of it are written at once, at most
abbrev pub group_size : ℕ
group_size = 6

-- the point, and the digits behind it
abbrev pub fraction_most : ℕ
fraction_most = 1 + decimal_limit

-- a number without its sign, and with it
abbrev pub size_most : ℕ
size_most = decimal_most + fraction_most

abbrev pub number_most : ℕ
number_most = 1 + size_most

-- `^` and a count
abbrev pub count_most : ℕ
count_most = 1 + decimal_most

-- ---- what is written
-- a number of 64 bits that has g groups of digits behind its leading ones
abbrev pub Grouped : ℕ → ℕ → Type 0
Grouped g n = (10 ^ (group_size * g) ≤ n) × (n < 10 ^ (group_size * (g + 1))) × (n < 10 ^ decimal_most)

-- r digits, no zero in front, are all that a number has
pub record DigitsIn (n r : ℕ) : Type 0 where
  pub whole : last_digits r n ≡ decimal n
  pub least : (d : ℕ) → n < 10 ^ (d + 1) → r ≤ d + 1

-- the number of the tables with this sign, these digits and so many decimals
abbrev pub number_of : Bool → ℕ → ℕ → Number (Unit {0})
number_of minus digits decimals = record { minus = minus; digits = digits; decimals = decimals; at = tt }

-- a sign that is always written, or only where there is a minus; masses and scores
abbrev pub sign_text : Bool → Bool → List ℕ
sign_text always minus = cond minus (dash ∷ []) (cond always (plus ∷ []) [])

abbrev pub number_text : {P : Type 0} → Bool → Number P → List ℕ
number_text always n = cond always (mass_text n) (score_text n)
