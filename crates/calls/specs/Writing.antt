-- What writing the canonical line answers, and what it leaves in the output: each an equation with the definitions of crate scope.
use Rattle.std.specs.Prelude.{◌≡◌, List, ℕ, ℤ, Result}
use Rattle.scope.specs.Canonical.{canonical}
use Rattle.scope.specs.Layout.{tables_in}
use Rattle.scope.specs.Answers.{writes, output_after, says}
use Rattle.scope.specs.declared.refusals.Refusal.{Refusal}

pub record WriteSays (bytes : List ℕ) (numbers : List ℤ) (out : List ℕ) (r : Result ℕ Refusal) (out' : List ℕ) : Type 0 where
  pub says : says r ≡ writes bytes numbers out
  pub output_after_is : out' ≡ output_after (writes bytes numbers out) (canonical (tables_in bytes numbers)) out
