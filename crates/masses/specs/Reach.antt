-- What a reading of one bracket's masses asks of the areas.
use Rattle.std.specs.Prelude.{List, ℕ, ◌<◌, ℤ}
use Rattle.scope.specs.Layout.{brackets_field, parts_field}
use Rattle.areas.specs.Bounds.{Bounds}

-- the areas keep to the bounds of tables, and there is a bracket k
pub record Reach (bs : List ℕ) (ns : List ℤ) (k : ℕ) : Type 0 where
  pub bounds : Bounds bs ns
  pub inside : k < brackets_field bs

-- and it has a part j
pub record ReachPart (bs : List ℕ) (ns : List ℤ) (k j : ℕ) : Type 0 where
  pub reach : Reach bs ns k
  pub part : j < parts_field bs k
