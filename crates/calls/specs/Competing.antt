-- Why there is no placement (02, L7): what `why_none` answers.
use Rattle.std.specs.Prelude.{◌≡◌, List, ℕ, ℤ, length, Result}
use Rattle.scope.specs.declared.answers.Why.{Why}
use Rattle.scope.specs.declared.refusals.Refusal.{Refusal}
use Rattle.scope.specs.Limits.{copy_limit}
use Rattle.scope.specs.Lists.{padded}
use Rattle.scope.specs.Layout.{tables_in}
use Rattle.scope.specs.Positions.{Floating, floating_of}
use Rattle.scope.specs.Reasons.{Reason}
use Rattle.scope.specs.Answers.{good, over_tables, says as what_says}

-- what is told of a set: how many it has, and their numbers with zeros behind them
abbrev pub told_of : List ℕ → Why
told_of l = record { count = length l; at = padded 0 copy_limit l }

-- of what floats: the set
pub record Competes (f : Floating) (r : Why) : Type 0 where
  pub set : List ℕ
  pub reason : Reason f set
  pub told : r ≡ told_of set

-- `why_none`: the set is "the smallest; among equals the first by floater order", which one set at most is
pub record WhySays (bs : List ℕ) (ns : List ℤ) (r : Result Why Refusal) : Type 0 where
  pub set : List ℕ
  pub reason : Reason (floating_of (tables_in bs ns)) set
  pub says : what_says r ≡ over_tables bs ns (λ t. good (told_of set))
