-- Whether a test holds at one of n numbers from i on; and what loops that try them one after the other have found. Assumes nothing.
use mathlib.Core.Path.{◌≡◌, refl, sym, ap, ◌∙◌}
use mathlib.Core.Bool.{Bool, true, false, ◌||◌, or-false, or-true, or_assoc}
use mathlib.Core.List.{List}
use Prim.Native.Nat.{ℕ, zero, suc, ◌+◌, ◌≤◌, ◌<◌}
use native.Mathlib.Nat.{add-zero}
use native.Mathlib.Omega.{arith}
use borrow.Author.Tests.{eqb-true, eqb-false}
use lib.Dec.{eqb}
use lib.IntN.{ℤ}
use Rattle.basics.specs.Choice.{by_test}

unfoldable pub any_of : (ℕ → Bool) → ℕ → ℕ → Bool
any_of q i zero = false
any_of q i (suc n) = q i || any_of q (i + 1) n

pub any_none : (q : ℕ → Bool) (i n : ℕ) → ((j : ℕ) → i ≤ j → j < i + n → q j ≡ false) → any_of q i n ≡ false
unfolding any_of
any_none q i zero h = refl
any_none q i (suc n) h = rw (h i (omega arith) (omega arith)) (any_none q (i + 1) n (λ j a b. h j (omega arith) (omega arith)))

pub any_some : (q : ℕ → Bool) (i n j : ℕ) → i ≤ j → j < i + n → q j ≡ true → any_of q i n ≡ true
unfolding any_of
any_some q i zero j a b e = absurd (omega arith)
any_some q i (suc n) j a b e =
    by_test (eqb i j) (λ t. ap (λ x. x || any_of q (i + 1) n) (ap q (eqb-true i j t) ∙ e))
    (λ t.
    let ne : i ≡ j → ⊥ = eqb-false i j t in
    ap (λ x. q i || x) (any_some q (i + 1) n j (omega arith) (omega arith) e) ∙ or-true (q i))

-- one more at the end
pub any_last : (q : ℕ → Bool) (i n : ℕ) → any_of q i (suc n) ≡ any_of q i n || q (i + n)
unfolding any_of
any_last q i zero = or-false (q i) ∙ ap q (sym (add-zero i))
any_last q i (suc n) =
    ap (λ x. q i || x) (any_last q (i + 1) n ∙ ap (λ j. any_of q (i + 1) n || q j) (omega arith))
    ∙ sym (or_assoc (q i) (any_of q (i + 1) n) (q (i + suc n)))

-- ---- a search among m, up to number j: nothing is found yet
pub record Unfound (m j : ℕ) (q : List ℤ → ℕ → Bool) : Type 0 where
  pub within : j ≤ m
  pub none : (ns : List ℤ) (i : ℕ) → i < j → q ns i ≡ false

pub found : {m j : ℕ} {q : List ℤ → ℕ → Bool} {b : Bool} → Unfound m j q → j < m → ((ns : List ℤ) → b ≡ q ns j) → b ≡ true → (ns : List ℤ) → true ≡ any_of (q ns) 0 m
found {m} {j} {q} u h e f ns = sym (any_some (q ns) 0 m j (omega arith) (omega arith) (sym (e ns) ∙ f))

pub unfound_end : {m j : ℕ} {q : List ℤ → ℕ → Bool} → Unfound m j q → m ≤ j → (ns : List ℤ) → false ≡ any_of (q ns) 0 m
unfound_end {m} {j} {q} u h ns = sym (any_none (q ns) 0 m (λ i a b. u.none ns i (omega arith)))
