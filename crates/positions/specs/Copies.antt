-- The first so many entries of two arrays: of each floater its bracket, and which of its copies it is.
use Rattle.std.specs.Prelude.{◌≡◌, List, ◌++◌, ℕ, ◌+◌, length, take}
use Rattle.scope.specs.Limits.{copy_limit}
use Rattle.scope.specs.Positions.{copies_at, brackets_of, copies_of}

-- the m copies of bracket k were added to the first n
pub record Added (n m k : ℕ) (brs cps : List ℕ) (n' : ℕ) (brs' cps' : List ℕ) : Type 0 where
  pub many : n' ≡ n + m
  pub brackets : take n' brs' ≡ take n brs ++ brackets_of (copies_at k m)
  pub copies : take n' cps' ≡ take n cps ++ copies_of (copies_at k m)
  pub brackets_long : length brs' ≡ copy_limit
  pub copies_long : length cps' ≡ copy_limit
