-- The tables in areas that keep to their bounds are limited as the laws of masses ask.
use Rattle.std.specs.Prelude.{List, ℕ, ◌≤◌, ℤ, length}
use Rattle.std.proofs.Common.{arith}
use Rattle.scope.specs.Limits.{copy_limit, declaration_limit}
use Rattle.scope.specs.Layout.{bracket_in, tables_in, brackets_field}
use Rattle.scope.specs.Positions.{floaters}
use Rattle.scope.specs.Refusals.{declarations}
use Rattle.scope.specs.Masses.{mass_or0}
use Rattle.areas.specs.Bounds.{Small, Bounds}
use Rattle.basics.specs.Tabled.{length_tabled}
use Rattle.mass_laws.proofs.Small.{small_mass}
use Rattle.mass_laws.specs.Terms.{Limited}
use Rattle.basics.specs.Each.{each_tabled}

pub limited_in : {bs : List ℕ} {ns : List ℤ} → Bounds bs ns → length (floaters (tables_in bs ns)) ≤ copy_limit → length (declarations (tables_in bs ns).brackets) ≤ declaration_limit
    → Limited (tables_in bs ns)
unfolding tables_in
limited_in {bs} {ns} b few declared =
    record {
      few_brackets_lem = rw (length_tabled (bracket_in bs ns) 0 (brackets_field bs)) b.few_brackets_lem;
      few_declarations = declared;
      few_copies = few;
      small = each_tabled (λ k. Small (mass_or0 k)) (bracket_in bs ns) 0 (brackets_field bs) (λ i h. small_mass b (omega arith));
    }
