-- What `reached` ensures: the positions that the places of a bracket name. A bracket that is no declaration has no places, and reaches none.
use Rattle.std.specs.Prelude.{◌≡◌, cond, List, [], ℕ, ltb, ℤ, length, Result}
use Rattle.scope.specs.Limits.{position_limit}
use Rattle.scope.specs.Lists.{given}
use Rattle.scope.specs.Tables.{Tables}
use Rattle.scope.specs.Layout.{tables_in}
use Rattle.scope.specs.Positions.{reached}
use Rattle.scope.specs.Answers.{Said, good, refuses, over_tables, output_after, says}
use Rattle.calls.specs.Single.{element_at}
use Rattle.scope.specs.declared.refusals.Refusal.{Refusal}

-- the positions that bracket i reaches, ascending, brackets counted from 0
abbrev pub reached_by : Tables → ℕ → List ℕ
reached_by t i = given (element_at t.brackets i) (reached t) []

-- how many they are: 17 where there is no such bracket
abbrev pub reached_at : Tables → ℕ → Said ℕ
reached_at t i = given (element_at t.brackets i) (λ k. good (length (reached t k))) (refuses 17 0)

-- 13 where the lent slice is shorter than there may be positions
abbrev pub reached_said : List ℕ → List ℤ → ℕ → List ℕ → Said ℕ
reached_said bs ns i out = cond (ltb (length out) position_limit) (refuses 13 0) (over_tables bs ns (λ t. reached_at t i))

pub record ReachedSays (bs : List ℕ) (ns : List ℤ) (i : ℕ) (out : List ℕ) (r : Result ℕ Refusal) (out' : List ℕ) : Type 0 where
  pub says : says r ≡ reached_said bs ns i out
  pub after : out' ≡ output_after (reached_said bs ns i out) (reached_by (tables_in bs ns) i) out
