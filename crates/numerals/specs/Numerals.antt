-- Numbers in a line: scope's own step, as far as it goes.
use Rattle.std.specs.Prelude.{ℕ, ◌+◌, ◌*◌, ◌^◌, ◌≤◌, min, ◌≡◌, cond, List, [], ◌∷◌, drop, Option, Some, None, Result, Ok, Err}
use Rattle.scope.specs.declared.grammar.Stuck.{Stuck}
use Rattle.scope.specs.declared.tables.Number.{Number as Kept}
use Rattle.scope.specs.Bytes.{is_digit, value}
use Rattle.scope.specs.Limits.{size_limit, decimal_limit, count_limit}
use Rattle.scope.specs.Line.{Number}
use Rattle.scope.specs.Lists.{given}
use Rattle.scope.specs.Content.{digit_step, number_end}
use Rattle.scope.specs.Content as content
use Rattle.scope.specs.Refusals.{in_range}
use Rattle.scope.specs.Tables.{millionths}
use Rattle.classes.specs.Runs.{span}
use Rattle.numerals.specs.declared.Num.{Num}

-- a number and the place behind it, or the place where no number goes on
pub data Scanned : Type 0 where
  found : Number ℕ → ℕ → Scanned
  lost : ℕ → Scanned

-- the number can go no further at the place i; p is the place of its first byte
abbrev pub ended : ℕ → content.Digits → ℕ → Scanned
ended p d i = given (number_end p d) (λ n. found n i) (lost i)

-- the bytes from the place i on
unfoldable pub scan_number : ℕ → content.Digits → List ℕ → ℕ → Scanned
scan_number p d [] i = ended p d i
scan_number p d (b ∷ l) i = given (digit_step d b) (λ d'. scan_number p d' l (i + 1)) (ended p d i)

-- "A number keeps its value in millionths and its count of decimals"
abbrev pub kept : {P : Type 0} → Number P → Kept
kept n = record { millionths = millionths n; decimals = n.decimals }

abbrev pub kept_in_range : {P : Type 0} → Number P → Option Kept
kept_in_range n = cond (in_range n) (Some (kept n)) None

abbrev pub num_of : Scanned → Result Num Stuck
num_of (found n i) = Ok (record { number = kept_in_range n; next = i })
num_of (lost i) = Err (record { at = i })

-- the digits that the list begins with, behind a number m
unfoldable pub digits_from : ℕ → List ℕ → ℕ
digits_from m [] = m
digits_from m (b ∷ l) = cond (is_digit b) (digits_from (m * 10 + value b) l) m

-- above this no number is in range
abbrev pub cap : ℕ
cap = size_limit * 10 ^ decimal_limit

-- the digits of s from at on, behind a number v
pub record DigitsAt (s : List ℕ) (at v value next : ℕ) : Type 0 where
  pub low : value ≤ cap
  pub valued : value ≡ min cap (digits_from v (drop at s))
  pub ends : next ≡ at + span is_digit (drop at s)

-- the digits of a count, from at on: above its limit any count is as good as another
pub record CountAt (s : List ℕ) (at value next : ℕ) : Type 0 where
  pub valued : value ≡ min (count_limit + 1) (digits_from 0 (drop at s))
  pub ends : next ≡ at + span is_digit (drop at s)
