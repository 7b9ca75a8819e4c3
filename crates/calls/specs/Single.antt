-- What is answered of one bracket: the element of a list at a place, and the mass that a bracket has by itself, stated, only measured, or none.
use Rattle.std.proofs.Math.Option.{Option, none, some}
use Rattle.std.specs.Prelude.{List, [], ◌∷◌, ℕ, zero, suc, ℤ}
use Rattle.scope.specs.declared.answers.Mass.{Mass}
use Rattle.scope.specs.Lists.{given}
use Rattle.scope.specs.Tables.{Tables}
use Rattle.scope.specs.Masses.{mass_of}
use Rattle.scope.specs.Answers.{Said, good, refuses, over_tables}

-- the element at a place, counted from 0, where there is one
unfoldable pub element_at : {A : Type 0} → List A → ℕ → Option A
element_at [] i = none
element_at (x ∷ l) zero = some x
element_at (x ∷ l) (suc i) = element_at l i

-- the mass of bracket i, counted from 0: 17 where there is no such bracket
abbrev pub mass_at : Tables → ℕ → Said Mass
mass_at t i = given (element_at t.brackets i) (λ k. good (mass_of k)) (refuses 17 0)

abbrev pub weighs_at : List ℕ → List ℤ → ℕ → Said Mass
weighs_at bs ns i = over_tables bs ns (λ t. mass_at t i)
