-- A value and a label that were found in a line, of which it is asked what is due.
use Rattle.std.specs.Prelude.{Bool, true, false, ℕ, ◌<◌, ◌≤◌, List, length, Option, Some, None}
use Rattle.scope.specs.Bytes.{wide_limit}
use Rattle.scope.specs.declared.tables.Number.{Number}
use Rattle.values.specs.declared.Body.{Body}
use Rattle.values.specs.declared.Body.TheVariants.{Mass, Text, Reference}
use Rattle.labels.specs.declared.Score.{Score}
use Rattle.scope.specs.Limits.{line_limit}
use Rattle.scope.specs.Line.{Label as Written, Part}
use Rattle.values.specs.declared.Value.{Value}
use Rattle.values.specs.Says.{IsValue}
use Rattle.labels.specs.declared.Label.{Label}
use Rattle.labels.specs.Says.{IsLabel}

-- a place, if there is one, is small
abbrev pub PlaceFits : Option ℕ → Type 0
PlaceFits None = Unit {0}
PlaceFits (Some i) = i < wide_limit

-- a number that was read is out of range where it is not kept
abbrev pub wide_number : Option Number → Bool
wide_number None = true
wide_number (Some n) = false

abbrev pub wide_body : Body → Bool
wide_body (Mass n) = wide_number n
wide_body (Text d) = false
wide_body Reference = false

abbrev pub wide_score : Option Score → Bool
wide_score None = false
wide_score (Some s) = wide_number s.number

pub record ValueFound (line : List ℕ) (at : ℕ) (v : Value) : Type 0 where
  pub found : Part ℕ
  pub is_value : IsValue line at v found
  pub short : length line ≤ line_limit

-- behind the value of a part that begins at `at`
pub record LabelFound (line : List ℕ) (at : ℕ) (r : Label) : Type 0 where
  pub found : Written ℕ
  pub is_label : IsLabel line found.at r found
  pub inside : at ≤ length line
  pub short : length line ≤ line_limit
