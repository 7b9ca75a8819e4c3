-- Areas that are tables keep to the bounds: so areas that do not are no tables.
use Rattle.std.specs.Prelude.{◌≡◌, false, List, ℕ, ℤ}
use Rattle.scope.specs.Answers.{are_tables}
use Rattle.areas.specs.Bounds.{Bounds}
use Rattle.basics.specs.Choice.{by_test}
use Rattle.layout_laws.proofs.Laws.{tables_held}

pub bounds_needed : (bs : List ℕ) (ns : List ℤ) → (Bounds bs ns → ⊥) → are_tables bs ns ≡ false
bounds_needed bs ns n = by_test (are_tables bs ns) (λ e. absurd (n (tables_held bs ns e).1.bounds)) (λ e. e)
