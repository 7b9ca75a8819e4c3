-- A list of bytes that all pass a test, with one byte more; and the number that digits mean, digit by digit.
use Rattle.std.specs.Prelude.{ℕ, ◌+◌, ◌*◌, ◌≡◌, refl, Bool, true, false, not, List, [], ◌∷◌, ◌++◌}
use Rattle.std.proofs.Common.{arith, ap}
use Rattle.std.proofs.lemmas.Bool.{false≢true}
use Rattle.scope.specs.Bytes.{value}
use Rattle.scope.specs.Lists.{none?, all as every}
use Rattle.basics.specs.Tests.{both}
use Rattle.basics.specs.Lists.{all_append}
use Rattle.scope.specs.Grammar.{some_of, value_on}

pub all_nil : (f : ℕ → Bool) → every f [] ≡ true
unfolding every
all_nil f = refl

pub all_one : (f : ℕ → Bool) (b : ℕ) → f b ≡ true → every f (b ∷ []) ≡ true
unfolding every
all_one f b e = rw (e, every)

pub all_snoc : (f : ℕ → Bool) (l : List ℕ) (b : ℕ) → every f l ≡ true → f b ≡ true → every f (l ++ (b ∷ [])) ≡ true
all_snoc f l b e g = all_append f l (b ∷ []) e (all_one f b g)

pub not_none : (l : List ℕ) (b : ℕ) → none? (l ++ (b ∷ [])) ≡ false
not_none [] b = refl
not_none (x ∷ l) b = refl

pub some_snoc : (f : ℕ → Bool) (l : List ℕ) (b : ℕ) → every f l ≡ true → f b ≡ true → some_of f (l ++ (b ∷ [])) ≡ true
some_snoc f l b e g = both (not (none? (l ++ (b ∷ [])))) (every f (l ++ (b ∷ []))) (ap not (not_none l b)) (all_snoc f l b e g)

pub some_all : (f : ℕ → Bool) (l : List ℕ) → some_of f l ≡ true → every f l ≡ true
some_all f [] e = absurd (false≢true e)
some_all f (b ∷ l) e = e

pub value_append : (m : ℕ) (l r : List ℕ) → value_on m (l ++ r) ≡ value_on (value_on m l) r
unfolding value_on
value_append m [] r = refl
value_append m (b ∷ l) r = value_append (m * 10 + value b) l r

pub value_snoc : (m : ℕ) (l : List ℕ) (b : ℕ) → value_on m (l ++ (b ∷ [])) ≡ value_on m l * 10 + value b
unfolding value_on
value_snoc m l b = value_append m l (b ∷ [])

pub value_one : (b : ℕ) → value b ≡ value_on 0 (b ∷ [])
unfolding value_on
value_one b = omega arith
