-- Laws of the digits of a number. Assumes nothing.
use mathlib.Core.Path.{◌≡◌, refl, sym, ap, ap₂, ◌∙◌}
use mathlib.Core.Bool.{Bool, true, false, cond}
use mathlib.Core.List.{[], ◌∷◌, ◌++◌, append-nil, append_assoc}
use Prim.Native.Nat.{ℕ, zero, suc, ◌+◌, ◌-◌, ◌*◌, ◌/◌, ◌%◌, ◌^◌, ◌≤◌, ◌<◌}
use native.Mathlib.Nat.{pow-suc, zero-add, mul_comm, div-one, div-le_self, le-div_iff_mul-le, div-lt_iff_lt-mul, div-div-eq-div-mul}
use native.Mathlib.Numerals.{add-one}
use native.Mathlib.Omega.{arith}
use borrow.Author.Tests.{lt-ltb, le-ltb, ne_eqb}
use lib.Arith.{mod-mul}
use lib.Dec.{ltb}
use lib.IntN.{ℤ, nat_abs}
use Rattle.scope.specs.Bytes.{plus, dash, dot, caret}
use Rattle.scope.specs.Limits.{decimal_limit}
use Rattle.scope.specs.Layout.{is_negative, number_in}
use Rattle.scope.specs.Canonical.{decimal_up_to, decimal, last_digits, decimals, size, count_text}
use Rattle.figures.specs.Written.{decimal_most, DigitsIn, number_of, sign_text, number_text}
use Rattle.tens.proofs.Powers.{power_some}

-- ---- the last digits
-- by tens: what is left of a number, and its last digit
by_tens : (r q y : ℕ) → r ≡ q * 10 + y → y < 10 → (r / 10 ≡ q) × (r % 10 ≡ y)
by_tens r q y e h = (omega arith, omega arith)

tenth_far : (d n : ℕ) → n / 10 / 10 ^ d ≡ n / 10 ^ suc d
tenth_far d n = div-div-eq-div-mul n 10 (10 ^ d) ∙ ap (λ p. n / p) (mul_comm 10 (10 ^ d) ∙ sym (pow-suc 10 d))

-- no more of a number than its last d digits is asked
pub only_last : (d n : ℕ) → last_digits d n ≡ last_digits d (n % 10 ^ d)
unfolding last_digits
only_last zero n = refl
only_last (suc d) n =
    let whole : n % 10 ^ suc d ≡ n / 10 % 10 ^ d * 10 + n % 10 = rw (pow-suc 10 d) (mod-mul n (power_some d) (omega arith)) in
    let cut = by_tens (n % 10 ^ suc d) (n / 10 % 10 ^ d) (n % 10) whole (omega arith) in
    rw (cut.0, cut.1) (ap (λ t. t ++ ((48 + n % 10) ∷ [])) (only_last d (n / 10)))

-- digits before the last d, and the last d
pub last_split : (d a n : ℕ) → last_digits (d + a) n ≡ last_digits a (n / 10 ^ d) ++ last_digits d n
unfolding last_digits
last_split zero a n = rw (zero-add a, div-one n) (sym (append-nil (last_digits a n)))
last_split (suc d) a n =
    let x = (48 + n % 10) ∷ [] in
    let more : suc d + a ≡ suc (d + a) = omega arith in
    rw more
    (ap (λ t. t ++ x) (last_split d a (n / 10) ∙ ap (λ m. last_digits a m ++ last_digits d (n / 10)) (tenth_far d n))
    ∙ append_assoc (last_digits a (n / 10 ^ suc d)) (last_digits d (n / 10)) x)

-- the leading digit, and what is left
pub lead : (k n : ℕ) → n < 10 ^ (k + 1) → last_digits (k + 1) n ≡ (48 + n / 10 ^ k) ∷ last_digits k (n % 10 ^ k)
unfolding last_digits
lead k n h =
    let small : n / 10 ^ k < 10 = (div-lt_iff_lt-mul {k = 10 ^ k} {x = n} {y = 10} (power_some k)).1 (rw (mul_comm 10 (10 ^ k), sym (pow-suc 10 k), sym (add-one k)) h) in
    let one : n / 10 ^ k % 10 ≡ n / 10 ^ k = omega arith in
    last_split k 1 n ∙ ap₂ (λ x t. (48 + x) ∷ t) one (only_last k n)

-- ---- a number without leading zeros
decimal_one : (k n : ℕ) → n < 10 → decimal_up_to k n ≡ (48 + n) ∷ []
unfolding decimal_up_to
decimal_one zero n h = refl
decimal_one (suc k) n h = rw (lt-ltb n 10 h)

decimal_more : (k n : ℕ) → 10 ≤ n → decimal_up_to (suc k) n ≡ decimal_up_to k (n / 10) ++ ((48 + n % 10) ∷ [])
unfolding decimal_up_to
decimal_more k n h = rw (le-ltb n 10 h)

-- a tenth has a digit less
tenth_below : (k n : ℕ) → n < 10 ^ suc (suc k) → n / 10 < 10 ^ suc k
tenth_below k n h = (div-lt_iff_lt-mul {k = 10} {x = n} {y = 10 ^ suc k} (omega arith)).1 (rw (pow-suc 10 (suc k)) at h)

tenth_above : (k n : ℕ) → 10 ^ suc k ≤ n → 10 ^ k ≤ n / 10
tenth_above k n h = (le-div_iff_mul-le {k = 10} {x = 10 ^ k} {y = n} (omega arith)).1 (rw (pow-suc 10 k) at h)

-- of a number of k + 1 digits, none of which is a zero in front, the last k + 1 are all
as_last : (k m n : ℕ) → (0 < k → 10 ^ k ≤ n) → n < 10 ^ suc k → k ≤ m → decimal_up_to m n ≡ last_digits (suc k) n
unfolding last_digits
as_last zero m n h l f = let e : n % 10 ≡ n = omega arith in decimal_one m n (omega arith) ∙ ap (λ x. (48 + x) ∷ []) (sym e)
as_last (suc k) zero n h l f = absurd (omega arith)
as_last (suc k) (suc m) n h l f =
    let above : 10 ^ k ≤ n / 10 = tenth_above k n (h (omega arith)) in
    decimal_more m n (omega (arith, above, power_some k))
    ∙ ap (λ t. t ++ ((48 + n % 10) ∷ [])) (as_last k m (n / 10) (λ z. above) (tenth_below k n l) (omega arith))

pub as_decimal : (k n : ℕ) → (0 < k → 10 ^ k ≤ n) → n < 10 ^ (k + 1) → k < decimal_most → decimal n ≡ last_digits (k + 1) n
unfolding decimal
as_decimal k n h l f = rw (add-one k) (as_last k (decimal_most - 1) n h (rw (sym (add-one k)) l) (omega arith))

-- one digit
pub decimal_digit : (n : ℕ) {b : ℕ} → n < 10 → b ≡ 48 + n → b ∷ [] ≡ decimal n
unfolding decimal
decimal_digit n h e = ap (λ x. x ∷ []) e ∙ sym (decimal_one (decimal_most - 1) n h)

-- no more digits than there is room for
pub at_most : (k d n : ℕ) → 10 ^ k ≤ n → n < 10 ^ suc d → k ≤ d
at_most zero d n h l = omega arith
at_most (suc k) zero n h l = absurd (omega (arith, tenth_above k n h, power_some k))
at_most (suc k) (suc d) n h l = let e = at_most k d (n / 10) (tenth_above k n h) (tenth_below d n l) in omega (arith, e)

pub digits_in : (k n : ℕ) → (0 < k → 10 ^ k ≤ n) → n < 10 ^ (k + 1) → k < decimal_most → DigitsIn n (k + 1)
digits_in k n h l f = record { whole = sym (as_decimal k n h l f); least = least k h }
  where
    least : (k : ℕ) → (0 < k → 10 ^ k ≤ n) → (d : ℕ) → n < 10 ^ (d + 1) → k + 1 ≤ d + 1
    least zero h d l = omega arith
    least (suc k) h d l = let e = at_most (suc k) d n (h (omega arith)) (rw (add-one d) at l) in omega (arith, e)

-- room for one digit more changes nothing
steady : (k n : ℕ) → n < 10 ^ suc k → decimal_up_to k n ≡ decimal_up_to (suc k) n
unfolding decimal_up_to
steady zero n h = sym (decimal_one 1 n (omega arith))
steady (suc k) n h = ap (λ t. cond (ltb n 10) ((48 + n) ∷ []) (t ++ ((48 + n % 10) ∷ []))) (steady k (n / 10) (tenth_below k n h))

-- the digits before the last d, and these
behind_leading :
    (d m n : ℕ) → 10 ^ d ≤ n → n < 10 ^ suc m → decimal_up_to m n ≡ decimal_up_to m (n / 10 ^ d) ++ last_digits d n
unfolding last_digits
behind_leading zero m n h l = rw (div-one n) (sym (append-nil (decimal_up_to m n)))
behind_leading (suc d) zero n h l = absurd (omega (arith, tenth_above d n h, power_some d))
behind_leading (suc d) (suc m) n h l =
    let x = (48 + n % 10) ∷ [] in
    let above = tenth_above d n h in
    let below = tenth_below m n l in
    let far = tenth_far d n in
    let less : n / 10 / 10 ^ d ≤ n / 10 = div-le_self (n / 10) (10 ^ d) in
    let same = steady m (n / 10 / 10 ^ d) (omega (arith, less, below)) ∙ ap (decimal_up_to (suc m)) far in
    decimal_more m n (omega (arith, above, power_some d))
    ∙ ap (λ t. t ++ x) (behind_leading d m (n / 10) above below)
    ∙ append_assoc (decimal_up_to m (n / 10 / 10 ^ d)) (last_digits d (n / 10)) x
    ∙ ap (λ t. t ++ (last_digits d (n / 10) ++ x)) same

pub decimal_behind : (d n : ℕ) → 10 ^ d ≤ n → n < 10 ^ decimal_most → decimal n ≡ decimal (n / 10 ^ d) ++ last_digits d n
unfolding decimal
decimal_behind d n h l = behind_leading d (decimal_most - 1) n h l

-- ---- numbers with their point and sign
pub decimals_none : (d n : ℕ) → d ≡ 0 → [] ≡ decimals d n
unfolding decimals
decimals_none d n e = rw e

pub decimals_some : (d n : ℕ) → (d ≡ 0 → ⊥) → (dot ∷ []) ++ last_digits d n ≡ decimals d n
unfolding decimals
decimals_some zero n z = absurd (z refl)
decimals_some (suc d) n z = refl

module _ (minus : Bool) (n d : ℕ) where
  pub size_text : (p : ℕ) → p ≡ 10 ^ d → decimal (n / p) ++ decimals d n ≡ size (number_of minus n d)
  unfolding size
  size_text p f = rw f

sign_then : (always minus : Bool) (n d : ℕ) → sign_text always minus ++ size (number_of minus n d) ≡ number_text always (number_of minus n d)
sign_then true true n d = refl
sign_then true false n d = refl
sign_then false true n d = refl
sign_then false false n d = refl

pub number_text_lem :
    (always : Bool) (m : ℤ) (d : ℕ) {minus : Bool} {n : ℕ} → minus ≡ is_negative m → n ≡ nat_abs m / 10 ^ (decimal_limit - d)
    → sign_text always minus ++ size (number_of minus n d) ≡ number_text always (number_in m d)
number_text_lem always m d {minus} {n} e f = sign_then always minus n d ∙ ap₂ (λ x y. number_text always (number_of x y d)) e f

pub sign_minus : (always minus : Bool) → minus ≡ true → dash ∷ [] ≡ sign_text always minus
sign_minus always minus e = rw e

pub sign_plus : (always minus : Bool) → minus ≡ false → always ≡ true → plus ∷ [] ≡ sign_text always minus
sign_plus always minus e f = rw (e, f)

pub sign_none : (always minus : Bool) → minus ≡ false → always ≡ false → [] ≡ sign_text always minus
sign_none always minus e f = rw (e, f)

pub count_one : (n : ℕ) → n ≡ 1 → [] ≡ count_text n
count_one n e = rw e

pub count_more : (n : ℕ) → (n ≡ 1 → ⊥) → (caret ∷ []) ++ decimal n ≡ count_text n
count_more n z = rw (ne_eqb n 1 z)
