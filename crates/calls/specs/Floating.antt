-- What `floater_brackets` ensures: the floaters, each by its bracket and by which copy of it it is.
use Rattle.std.specs.Prelude.{◌≡◌, cond, List, ℕ, ltb, ℤ, length, Result}
use Rattle.scope.specs.Limits.{copy_limit}
use Rattle.scope.specs.Layout.{tables_in}
use Rattle.scope.specs.Positions.{floaters_by, brackets_of, copies_of}
use Rattle.scope.specs.Answers.{Said, refuses, counts, floater_count, output_after, says}
use Rattle.scope.specs.declared.refusals.Refusal.{Refusal}

-- 13 where one of the two lent slices is shorter than there may be floaters; then how many there are
abbrev pub floaters_said : List ℕ → List ℤ → List ℕ → List ℕ → Said ℕ
floaters_said bs ns brs cps =
    cond (ltb (length brs) copy_limit) (refuses 13 0) (cond (ltb (length cps) copy_limit) (refuses 13 0) (counts bs ns floater_count))

pub record FloatersSay (bs : List ℕ) (ns : List ℤ) (brs cps : List ℕ) (r : Result ℕ Refusal) (brs' cps' : List ℕ) : Type 0 where
  pub says : says r ≡ floaters_said bs ns brs cps
  pub brackets_after : brs' ≡ output_after (floaters_said bs ns brs cps) (brackets_of (floaters_by (tables_in bs ns))) brs
  pub copies_after : cps' ≡ output_after (floaters_said bs ns brs cps) (copies_of (floaters_by (tables_in bs ns))) cps
