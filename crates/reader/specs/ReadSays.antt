-- What reading a line answers, and what it leaves in the lent areas: each an equation with the definitions of crate scope.
use Rattle.std.specs.Prelude.{◌≡◌, List, ◌++◌, ℕ, ◌+◌, ℤ, pos, length, take, drop, replicate, Result}
use Rattle.scope.specs.declared.refusals.Refusal.{Refusal}
use Rattle.scope.specs.Line.{Line}
use Rattle.scope.specs.Refusals.{accepted, outcome}
use Rattle.scope.specs.Layout.{bytes_size, numbers_size, bytes_of, numbers_of}
use Rattle.scope.specs.Lists.{laid}
use Rattle.layout_laws.proofs.Holds.{Holds}
use Rattle.store.specs.Filled.{Clean}
use Rattle.scope.specs.Answers.{says as told, says_outcome, read_outcome, bytes_after, numbers_after}

pub record ReadSays (line bytes : List ℕ) (numbers : List ℤ) (r : Result (Unit {0}) Refusal) (bytes' : List ℕ) (numbers' : List ℤ) : Type 0 where
  pub says : told r ≡ says_outcome (read_outcome bytes numbers line)
  pub bytes_after_is : bytes' ≡ bytes_after (read_outcome bytes numbers line) bytes
  pub numbers_after_is : numbers' ≡ numbers_after (read_outcome bytes numbers line) numbers

-- areas that hold the tables of an accepted line of n bytes
pub record HoldSome (n : ℕ) (bytes : List ℕ) (numbers : List ℤ) : Type 0 where
  pub text : List ℕ
  pub long : length text ≡ n
  pub held : Line ℕ
  pub holds : Holds bytes numbers text held

-- areas into which the tables of an accepted line were put
pub record Stored (line bytes : List ℕ) (numbers : List ℤ) (bytes' : List ℕ) (numbers' : List ℤ) : Type 0 where
  pub bytes_now : (l : Line ℕ) → outcome line ≡ accepted l → bytes' ≡ laid (bytes_of l) bytes
  pub numbers_now : (l : Line ℕ) → outcome line ≡ accepted l → numbers' ≡ laid (numbers_of l) numbers

-- the areas' room is zero, and what lies behind it is as it was
pub record Wiped (bytes : List ℕ) (numbers : List ℤ) (bytes' : List ℕ) (numbers' : List ℤ) : Type 0 where
  pub clean : Clean bytes' numbers'
  pub bytes_now : bytes' ≡ laid (replicate bytes_size 0) bytes
  pub numbers_now : numbers' ≡ laid (replicate numbers_size (pos 0)) numbers

-- n elements from a place on are z
abbrev pub wiped : {A : Type 0} → A → ℕ → ℕ → List A → List A
wiped z from n l = take from l ++ (replicate n z ++ drop (from + n) l)
