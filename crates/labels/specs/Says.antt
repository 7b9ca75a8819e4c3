-- What a label that was found in a line says: which it is, and how reading goes on behind it.
use Rattle.std.specs.Prelude.{◌≡◌, List, ℕ, ◌+◌, ◌<◌, ◌≤◌, ℤ, pos, length, Some, None, Result, Ok, Err}
use Rattle.std.specs.Prelude.{Option as Perhaps}
use Rattle.std.proofs.Math.Option.{Option, none, some}
use Rattle.scope.specs.Line.{Number, Label as Written, Part}
use Rattle.scope.specs.Lists.{part}
use Rattle.scope.specs.Content.{Context, hashed, inner_step, labelled, part_end}
use Rattle.scope.specs.Limits.{decimal_limit}
use Rattle.scope.specs.declared.grammar.Stuck.{Stuck}
use Rattle.scope.specs.declared.tables.Number.{Number as Kept}
use Rattle.numerals.specs.Numerals.{kept_in_range}
use Rattle.values.specs.Says.{Stops, GoesOn}
use Rattle.labels.specs.declared.Label.{Label}
use Rattle.labels.specs.declared.Score.{Score}

-- a score keeps its number where that is in range
abbrev pub score_kept : Option (Number ℕ) → Perhaps Score
score_kept none = None
score_kept (some n) = Some (record { number = kept_in_range n })

-- its code in a bracket's row: 0 for none, else one more than its decimals, or above all of these where it is out of range
abbrev pub number_code : Perhaps Kept → ℕ
number_code None = decimal_limit + 2
number_code (Some n) = n.decimals + 1

abbrev pub score_code : Perhaps Score → ℕ
score_code None = 0
score_code (Some s) = number_code s.number

-- and its millionths, 0 where there are none
abbrev pub number_points : Perhaps Kept → ℤ
number_points None = pos 0
number_points (Some n) = n.millionths

abbrev pub score_points : Perhaps Score → ℤ
score_points None = pos 0
score_points (Some s) = number_points s.number

-- a score stands behind its `(`
abbrev pub ScoreAt : ℕ → Option (Number ℕ) → Type 0
ScoreAt at none = Unit {0}
ScoreAt at (some n) = n.at ≡ at

-- the label l stands at `at`
pub record IsLabel (line : List ℕ) (at : ℕ) (r : Label) (l : Written ℕ) : Type 0 where
  pub from_is : r.from ≡ at
  pub place : l.at ≡ at
  pub name_is : l.name ≡ part at (length l.name) line
  pub to_is : r.to ≡ at + length l.name
  pub some_name : at < r.to
  pub score_is : r.score ≡ score_kept l.score
  pub score_place : ScoreAt (r.to + 1) l.score
  pub to_inside : r.to ≤ length line
  pub past : at < r.next
  pub within : r.next < length line

abbrev pub Any : Context ℕ → Type 0
Any c = Unit {0}

pub record LabelReads (line : List ℕ) (at : ℕ) (q : Part ℕ) (r : Label) (l : Written ℕ) : Type 0 where
  pub on : GoesOn line at Any (λ c. inner_step at (hashed c q)) r.next (λ c. part_end c (labelled q l.at l.name l.score))

-- behind the `#` of any part
pub record ReadsLabel (line : List ℕ) (at : ℕ) (r : Label) : Type 0 where
  pub found : Written ℕ
  pub is_label : IsLabel line at r found
  pub reads : (q : Part ℕ) → LabelReads line at q r found

abbrev pub LabelSays : List ℕ → ℕ → Result Label Stuck → Type 0
LabelSays line at (Err e) = (q : Part ℕ) → Stops line at Any (λ c. inner_step at (hashed c q)) e.at
LabelSays line at (Ok r) = ReadsLabel line at r
