-- What was worked out of what was handed out.
use Prim.Native.Nat.{ℕ}
use mathlib.Core.Path.{◌≡◌, refl, ap₂}
use Rattle.basics.specs.Said.{not_both, same_good, same_number_lem, same_place}
use Rattle.scope.specs.Answers.{Said, good, refuses, of_good}

-- a refusal of another kind of answer is the same refusal
pub as_refused : {A B : Type 0} {m q n p : ℕ} → ◌≡◌ {A = Said A} (refuses m q) (refuses n p) → ◌≡◌ {A = Said B} (refuses m q) (refuses n p)
as_refused e = ap₂ refuses (same_number_lem e) (same_place e)

pub good_back : {A B : Type 0} (f : A → B) (s : Said A) {y : B} → good y ≡ of_good f s → (x : A) × ((good x ≡ s) × (y ≡ f x))
good_back f (good x) e = (x, (refl, same_good e))
good_back f (refuses n p) e = absurd (not_both e)
