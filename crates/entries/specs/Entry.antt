-- The entry of a line: what the register prints for it, in an output that the caller lends.
use Rattle.std.specs.Prelude.{◌≡◌, Bool, true, false, List, [], ◌∷◌, ◌++◌, ℕ, ◌+◌, ◌*◌, ◌≤◌, ℤ, length, Result, Ok, Err}
use Rattle.scope.specs.Bytes.{bytes, question}
use Rattle.scope.specs.Limits.{line_limit}
use Rattle.scope.specs.Line.{Line}
use Rattle.scope.specs.Refusals.{Outcome, accepted, refused, outcome}
use Rattle.scope.specs.Canonical.{decimal, canonical}
use Rattle.scope.specs.Layout.{tables_in}
use Rattle.scope.specs.Positions.{floaters}
use Rattle.scope.specs.Register.{signed_text, total_text, printed}
use Rattle.areas.specs.Bounds.{Bounds}
use Rattle.order_laws.specs.Ranks.{InOrder}
use Rattle.masses.specs.declared.Lacking.{Lacking}
use Rattle.verdict.specs.declared.Noted.{Noted}
use Rattle.figures.specs.Written.{Puts, decimal_most}
use Rattle.writer.specs.Written.{line_most}

-- what is printed for the line s with the number n, and the byte behind it
abbrev pub entry : ℕ → List ℕ → List ℕ
entry n s = printed n s ++ (10 ∷ [])

-- whether a line of this outcome is refused
abbrev pub is_refused : Outcome → Bool
is_refused (accepted l) = false
is_refused (refused number place) = true

-- the fields behind the number of an accepted line: how many residues, brackets and floaters it has, then its total and itself
abbrev pub count_fields : Noted → List (List ℕ)
count_fields n = bytes "ok" ∷ decimal n.residues ∷ decimal n.brackets ∷ decimal n.floaters ∷ []

abbrev pub ok_fields : {P : Type 0} → Noted → Line P → List (List ℕ)
ok_fields n l = count_fields n ++ (total_text l ∷ canonical l ∷ [])

-- and of a refused one
abbrev pub no_fields : ℕ → ℕ → List (List ℕ)
no_fields number place = bytes "no" ∷ decimal number ∷ decimal place ∷ []

-- "total in millionths (signed, zero as `+0`; or `?` and how many lack a mass)"
abbrev pub weight_text : Result ℤ Lacking → List ℕ
weight_text (Ok m) = signed_text m
weight_text (Err l) = question ∷ decimal l.count

-- ---- how many bytes each piece has at most
-- `ok` or `no`, with a space before it
abbrev pub answer_most : ℕ
answer_most = 3

-- a number with a space before it
abbrev pub field_most : ℕ
field_most = 1 + decimal_most

-- the total: a sign or `?`, and a number
abbrev pub weight_most : ℕ
weight_most = 1 + decimal_most

-- "no, number, place"
abbrev pub refused_most : ℕ
refused_most = answer_most + 2 * field_most

-- "ok, residues, brackets, floaters"
abbrev pub counts_most : ℕ
counts_most = answer_most + 3 * field_most

-- the total, with a space before it
abbrev pub total_most : ℕ
total_most = 1 + weight_most

-- these, and the canonical line with a space before it: of an accepted line, and of any tables within bounds
abbrev pub accepted_most : ℕ
accepted_most = counts_most + (total_most + (1 + line_limit))

abbrev pub tables_most : ℕ
tables_most = counts_most + (total_most + (1 + line_most))

-- an entry: the line's number, what is printed of an accepted line, and byte 10
abbrev pub entry_limit : ℕ
entry_limit = decimal_most + (accepted_most + 1)

-- what is known of the tables of an accepted line, and need not be looked for in them
pub record Known (bs : List ℕ) (ns : List ℤ) : Type 0 where
  pub bounds : Bounds bs ns
  pub ordered : InOrder (tables_in bs ns)
  pub short : length (canonical (tables_in bs ns)) ≤ line_limit

-- so many copies float, where the line is accepted
abbrev pub Floats : List ℕ → ℕ → Type 0
Floats s many = (l : Line ℕ) → outcome s ≡ accepted l → many ≡ length (floaters l)

-- a text was put into the output, and the areas are as they were
pub record Printed (most : ℕ) (o : List ℕ) (at : ℕ) (t left : List ℕ) (r : ℕ) (bytes : List ℕ) (numbers : List ℤ) (bytes' : List ℕ) (numbers' : List ℤ) : Type 0 where
  pub puts : Puts most o at t left r
  pub out_long : length left ≡ length o
  pub bytes_same : bytes' ≡ bytes
  pub numbers_same : numbers' ≡ numbers
