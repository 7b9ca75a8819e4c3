-- A failure, told: how many lines are out, and a line of words and a number.
use Rattle.std.specs.Prelude.{cond, List, [], ◌∷◌, ◌++◌, ℕ, ◌+◌, eqb}
use Rattle.scope.specs.Canonical.{decimal}
use Rattle.figures.specs.Written.{decimal_most}
use Rattle.chunks.specs.Lines.{line_end}

-- how many lines end among bytes
unfoldable pub line_ends : List ℕ → ℕ
line_ends [] = 0
line_ends (b ∷ l) = cond (eqb b line_end) 1 0 + line_ends l

-- a number and the end of the line have at most so many bytes
abbrev pub notice_room : ℕ
notice_room = decimal_most + 1

-- words, a number, and the end of the line
abbrev pub noticed : List ℕ → ℕ → List ℕ
noticed words n = words ++ (decimal n ++ (line_end ∷ []))
