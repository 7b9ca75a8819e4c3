-- What the bracket in the areas has as its numbers, by the fields of its row.
use Rattle.std.specs.Prelude.{◌≡◌, List, ℕ, ℤ}
use Rattle.scope.specs.Layout.{bracket_in, count_field, first_field, last_field}

pub first_is : (bs : List ℕ) (k : ℕ) {n : ℕ} → n ≡ first_field bs k → (ns : List ℤ) → n ≡ (bracket_in bs ns k).first
unfolding bracket_in
first_is bs k e ns = e

pub last_is : (bs : List ℕ) (k : ℕ) {n : ℕ} → n ≡ last_field bs k → (ns : List ℤ) → n ≡ (bracket_in bs ns k).last
unfolding bracket_in
last_is bs k e ns = e

pub count_is : (bs : List ℕ) (k : ℕ) {n : ℕ} → n ≡ count_field bs k → (ns : List ℤ) → n ≡ (bracket_in bs ns k).count
unfolding bracket_in
count_is bs k e ns = e
