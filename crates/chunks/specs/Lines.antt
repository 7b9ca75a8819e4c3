-- The lines of an input, what the register prints for all of them, and how many of them are refused.
use Rattle.std.specs.Prelude.{ℕ, suc, ◌+◌, Bool, true, false, cond, List, [], ◌∷◌, ◌++◌, eqb}
use Rattle.scope.specs.Refusals.{outcome}
use Rattle.entries.specs.Entry.{entry, is_refused}

-- "Byte 10 ends a line"
abbrev pub line_end : ℕ
line_end = 10

-- a byte at the front of the first line
abbrev pub grown : ℕ → List (List ℕ) → List (List ℕ)
grown b [] = (b ∷ []) ∷ []
grown b (l ∷ ls) = (b ∷ l) ∷ ls

-- a byte in front of lines, and whether it is byte 10: then it ends a line that has nothing else
abbrev pub in_front : Bool → ℕ → List (List ℕ) → List (List ℕ)
in_front true b ls = [] ∷ ls
in_front false b ls = grown b ls

-- "Byte 10 ends a line and is no part of it; nothing after the last one is no line."
unfoldable pub lines : List ℕ → List (List ℕ)
lines [] = []
lines (b ∷ s) = in_front (eqb b line_end) b (lines s)

-- the entries of lines that are numbered from n on
unfoldable pub entries_from : ℕ → List (List ℕ) → List ℕ
entries_from n [] = []
entries_from n (l ∷ ls) = entry n l ++ entries_from (suc n) ls

-- what the register program prints for an input
unfoldable pub register : List ℕ → List ℕ
register s = entries_from 1 (lines s)

-- what a line adds to the number of those refused
abbrev pub refusal : List ℕ → ℕ
refusal l = cond (is_refused (outcome l)) 1 0

-- how many lines are refused
unfoldable pub refused_in : List (List ℕ) → ℕ
refused_in [] = 0
refused_in (l ∷ ls) = refusal l + refused_in ls
