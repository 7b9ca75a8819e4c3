-- What a bracket's row notes of a score. Assumes nothing.
use mathlib.Core.Path.{◌≡◌, refl}
use mathlib.Core.Option.{Option, none, some}
use Prim.Native.Nat.{ℕ}
use Rattle.basics.specs.Choice.{by_test}
use Rattle.scope.specs.Line.{Number}
use Rattle.scope.specs.Refusals.{in_range}
use Rattle.sheet.specs.Rows.{score_noted, points_noted}
use Rattle.labels.specs.Says.{score_kept, score_code, score_points}

pub code_kept : (s : Option (Number ℕ)) → score_code (score_kept s) ≡ score_noted s
code_kept none = refl
code_kept (some n) = by_test (in_range n) (λ t. rw t) (λ t. rw t)

pub points_kept : (s : Option (Number ℕ)) → score_points (score_kept s) ≡ points_noted s
points_kept none = refl
points_kept (some n) = by_test (in_range n) (λ t. rw t) (λ t. rw t)
