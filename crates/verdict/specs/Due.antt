-- What is known of a line that was walked, and what the first refusal due says of it.
use Rattle.std.specs.Prelude.{◌≡◌, cond, List, ◌++◌, ℕ, ◌/◌, ◌%◌, ◌≤◌, ltb, ℤ, length}
use Rattle.scope.specs.Bytes.{wide_limit, is_printable}
use Rattle.scope.specs.Limits.{line_limit, copy_limit}
use Rattle.scope.specs.Line.{Line}
use Rattle.scope.specs.Positions.{floaters}
use Rattle.scope.specs.Reading.{holds, reading}
use Rattle.classes.specs.Runs.{span}
use Rattle.sheet.specs.Rows.{heads_room, parts_room, Noted}
use Rattle.scope.specs.Answers.{Said, good, refuses}
use Rattle.verdict.specs.declared.Noted.{Noted as Has}
use Rattle.scope.specs.Refusals.{line_refusals}
use Rattle.dues.specs.Ranks.{lowest, no_code, number_at}
use Rattle.dues.specs.Lines.{met_codes, ruled_codes}

-- where no line goes on: 3, at the first byte outside 32 to 126; else 4
abbrev pub unread : List ℕ → ℕ → Said Has
unread line place = cond (ltb (span is_printable line) (length line)) (refuses 3 (span is_printable line)) (refuses 4 place)

-- the line is of the order, its brackets are noted, and `least` is the first refusal due of 5 to 9 and 19
pub record WalkedLine (line heads parts : List ℕ) (brackets least : ℕ) : Type 0 where
  pub held : Line ℕ
  pub is : reading line ≡ holds held
  pub short : length line ≤ line_limit
  pub brackets_are : brackets ≡ length held.brackets
  pub least_is : least ≡ lowest (no_code (line_refusals held)) (met_codes held.residues held.brackets)
  pub parts_many : ℕ
  pub masses : List ℤ
  pub scores : List ℤ
  pub noted : Noted line held.brackets parts_many heads parts masses scores

-- the code of the first refusal due of 5 to 12 and 19
abbrev pub first_code : Line ℕ → ℕ
first_code l = lowest (no_code (line_refusals l)) (met_codes l.residues l.brackets ++ ruled_codes l.brackets)

-- it is that, and so many copies float where none is due, and they are no more than may
pub record FirstOf (l : Line ℕ) (first many : ℕ) : Type 0 where
  pub first_is : first ≡ first_code l
  pub floaters_are : no_code (line_refusals l) ≤ first → length (floaters l) ≤ copy_limit → many ≡ length (floaters l)

-- what it says: the number of its rank, at its place; or that none is due
abbrev pub by_code : Line ℕ → ℕ → Has → Said Has
by_code l c n = cond (ltb c (no_code (line_refusals l))) (refuses (number_at (line_refusals l) (c / wide_limit)) (c % wide_limit)) (good n)
