-- What the verdict on a line answers: an equation with the definitions of crate scope. And what the lent tables hold where a line is accepted.
use Rattle.std.specs.Prelude.{◌≡◌, List, ℕ, ℤ, length, Result, Ok, Err}
use Rattle.scope.specs.declared.refusals.Refusal.{Refusal}
use Rattle.scope.specs.Line.{Line}
use Rattle.verdict.specs.declared.Noted.{Noted}
use Rattle.scope.specs.Positions.{floaters}
use Rattle.scope.specs.Refusals.{refused, outcome}
use Rattle.scope.specs.Answers.{says, reason_number, says_outcome}
use Rattle.sheet.specs.declared.Sheet.{Sheet}
use Rattle.sheet.specs.Kept.{LineNoted}

abbrev pub VerdictSays : List ℕ → Result (Unit {0}) Refusal → Type 0
VerdictSays line r = says r ≡ says_outcome (outcome line)

-- what is known of a line that has so much: it is noted in the sheet, which is the one behind the call, and so many copies float
abbrev pub Holds : List ℕ → Noted → Sheet → Type 0
Holds line n sheet = (l : Line ℕ) × LineNoted line sheet n.residues n.brackets l × (n.floaters ≡ length (floaters l))

-- the outcome of the line; where it is accepted, what it holds is noted in the sheet
abbrev pub JudgedSays : List ℕ → Result Noted Refusal → Sheet → Type 0
JudgedSays line (Err e) sheet = outcome line ≡ refused (reason_number e.reason) e.place
JudgedSays line (Ok n) sheet = Holds line n sheet
