-- An answer as it is handed to C: a number, 0 for a success, and what the lent values hold afterwards.
use Rattle.std.specs.Prelude.{ℕ, ◌≡◌, List, ℤ}
use Rattle.scope.specs.Refusals.{outcome}
use Rattle.scope.specs.Answers.{Said, good, refuses, says_outcome, read_outcome, bytes_after, numbers_after}

abbrev pub number_of : {A : Type 0} → Said A → ℕ
number_of (good x) = 0
number_of (refuses number place) = number

-- "A refusal changes no lent byte, row or record": a lent value afterwards is f of what was answered, or what it held
abbrev pub left : {A B : Type 0} → Said A → (A → B) → B → B
left (good x) f old = f x
left (refuses number place) f old = old

-- where a refusal leaves its place: a success leaves what was there
abbrev pub place_left : {A : Type 0} → Said A → ℕ → ℕ
place_left (good x) old = old
place_left (refuses number place) old = place

-- a number, and the place of a refusal
pub record Numbered {A : Type 0} (said : Said A) (place number place' : ℕ) : Type 0 where
  pub number_is : number ≡ number_of said
  pub place_is : place' ≡ place_left said place

-- what a verdict answers, with no areas
abbrev pub Judged : List ℕ → ℕ → ℕ → ℕ → Type 0
Judged line = Numbered (says_outcome (outcome line))

-- what reading answers and leaves
pub record Exported (line bytes : List ℕ) (numbers : List ℤ) (place number place' : ℕ) (bytes' : List ℕ) (numbers' : List ℤ) : Type 0 where
  pub numbered : Numbered (says_outcome (read_outcome bytes numbers line)) place number place'
  pub bytes_after_is : bytes' ≡ bytes_after (read_outcome bytes numbers line) bytes
  pub numbers_after_is : numbers' ≡ numbers_after (read_outcome bytes numbers line) numbers
