-- An input read chunk by chunk: what is kept between two bytes, what is put out, and how many lines are refused.
use Rattle.std.specs.Prelude.{Bool, true, false, cond, List, [], ◌∷◌, ◌++◌, ℕ, suc, ◌+◌, ◌-◌, eqb, take, drop}
use Rattle.scope.specs.Limits.{line_limit}
use Rattle.scope.specs.Refusals.{outcome}
use Rattle.entries.specs.Entry.{entry, is_refused}
use Rattle.chunks.specs.Lines.{line_end, refusal}

-- so many bytes of a line are held: one more than a line may have, so that a line too long is still too long
abbrev pub hold_limit : ℕ
hold_limit = line_limit + 1

-- the number of the line that is begun or comes next, how many of the lines before it were refused, and what is held of it
pub record Between : Type 0 where
  pub number : ℕ
  pub refused : ℕ
  pub held : List ℕ

abbrev pub holding : ℕ → ℕ → List ℕ → Between
holding n r h = record { number = n; refused = r; held = h }

abbrev pub start : Between
start = holding 1 0 []

-- bytes behind those held
abbrev pub kept : List ℕ → List ℕ → List ℕ
kept h t = take hold_limit (h ++ t)

-- where a line ends, and where it goes on: the state behind it, and what is put out
abbrev pub behind : Bool → Between → Between
behind true s = record { number = suc s.number; refused = s.refused + refusal s.held; held = [] }
behind false s = s

abbrev pub ended : Bool → Between → List ℕ
ended true s = entry s.number s.held
ended false s = []

-- a byte, and whether it is byte 10, "no part of" the line
abbrev pub stepped : Bool → Between → ℕ → Between
stepped true s b = behind true s
stepped false s b = record { number = s.number; refused = s.refused; held = kept s.held (b ∷ []) }

-- the state behind bytes
unfoldable pub after : Between → List ℕ → Between
after s [] = s
after s (b ∷ t) = after (stepped (eqb b line_end) s b) t

-- what is put out for them
unfoldable pub put : Between → List ℕ → List ℕ
put s [] = []
put s (b ∷ t) = ended (eqb b line_end) s ++ put (stepped (eqb b line_end) s b) t

-- what is put out at the end of the input: "nothing after the last one is no line"
abbrev pub last_put : ℕ → List ℕ → List ℕ
last_put n [] = []
last_put n (b ∷ h) = entry n (b ∷ h)

abbrev pub finished : Between → List ℕ
finished s = last_put s.number s.held

-- whether the line that is begun there is refused, and how many lines are, with it
abbrev pub last_refused : List ℕ → Bool
last_refused [] = false
last_refused (b ∷ h) = is_refused (outcome (b ∷ h))

abbrev pub refused_at_end : Between → ℕ
refused_at_end s = s.refused + cond (last_refused s.held) 1 0

-- chunk upon chunk, and the input that they are put together
unfoldable pub joined : List (List ℕ) → List ℕ
joined [] = []
joined (c ∷ cs) = c ++ joined cs

unfoldable pub after_all : Between → List (List ℕ) → Between
after_all s [] = s
after_all s (c ∷ cs) = after_all (after s c) cs

unfoldable pub put_all : Between → List (List ℕ) → List ℕ
put_all s [] = []
put_all s (c ∷ cs) = put s c ++ put_all (after s c) cs

-- the bytes of a chunk from a place up to another
abbrev pub part : ℕ → ℕ → List ℕ → List ℕ
part from end chunk = take (end - from) (drop from chunk)

-- bytes that end no line
unfoldable pub plain : List ℕ → Bool
plain [] = true
plain (b ∷ t) = cond (eqb b line_end) false (plain t)
