-- Digits and the number that they mean: the number gives back its last digits and what the others mean; and `decimal` writes, of a number below 10^20 as all are
-- that are written, digits that mean it, no more of them than any others that do.
use Rattle.std.specs.Prelude.{ℕ, zero, suc, ◌+◌, ◌*◌, ◌/◌, ◌%◌, ◌^◌, ◌≤◌, ◌<◌, ◌≡◌, refl, ◌↔◌, true, List, [], ◌∷◌, ◌++◌, leb, ltb, length}
use Rattle.std.proofs.Math.Nat.{div-div-eq-div-mul, one-le-pow, pow-succ'}
use Rattle.std.proofs.Common.{div-lt_iff_lt-mul, div-one, pow-suc, arith, sym, ap, ap₂, ◌∙◌, length-append, ltb-true, lt-ltb, le-leb, leb-true}
use Rattle.std.proofs.lemmas.Bool.{false≢true}
use Rattle.basics.specs.Choice.{branch_on}
use Rattle.basics.specs.Tests.{and_left, and_right}
use Rattle.scope.specs.Bytes.{is_digit, value}
use Rattle.scope.specs.Lists.{all}
use Rattle.scope.specs.Grammar.{some_of, value_on}
use Rattle.scope.specs.Canonical.{decimal_up_to, decimal, last_digits}
use Rattle.grammar_laws.proofs.Lists.{all_nil, some_snoc, some_all, value_snoc, value_one}

digit_value : (b : ℕ) → is_digit b ≡ true → (value b < 10) × (48 + value b ≡ b)
digit_value b e =
    let low = leb-true 48 b (and_left (leb 48 b) (leb b 57) e) in
    let high = leb-true b 57 (and_right (leb 48 b) (leb b 57) e) in
    (omega arith, omega arith)

is_digit_lem : (k : ℕ) → k < 10 → is_digit (48 + k) ≡ true
is_digit_lem k h = rw (le-leb 48 (48 + k) (omega arith), le-leb (48 + k) 57 (omega arith))

-- ---- the number that digits mean
tenth : (n d : ℕ) → n / 10 ^ suc d ≡ n / 10 ^ d / 10
tenth n d = ap (λ z. n / z) (pow-suc 10 d) ∙ sym (div-div-eq-div-mul n (10 ^ d) 10)

-- behind m: m is left when they are cut off
pub value_cut : (m : ℕ) (l : List ℕ) → all is_digit l ≡ true → value_on m l / 10 ^ length l ≡ m
unfolding value_on all
value_cut m [] e = div-one m
value_cut m (b ∷ l) e =
    let h = digit_value b (and_left (is_digit b) (all is_digit l) e) in
    tenth (value_on (m * 10 + value b) l) (length l) ∙ ap (λ z. z / 10) (value_cut (m * 10 + value b) l (and_right (is_digit b) (all is_digit l) e)) ∙ omega (arith, h.0)

pub cut_below : (n d k : ℕ) → n / 10 ^ d < k ↔ n < k * 10 ^ d
cut_below n d k = div-lt_iff_lt-mul (one-le-pow d 10 (omega arith))

value_below : (l : List ℕ) → all is_digit l ≡ true → value_on 0 l < 10 ^ length l
value_below l e = let cut = value_cut 0 l e in omega (arith, (cut_below (value_on 0 l) (length l) 1).0 (omega arith))

last_front : (d n : ℕ) → last_digits (suc d) n ≡ (48 + n / 10 ^ d % 10) ∷ last_digits d n
unfolding last_digits
last_front zero n = ap (λ z. (48 + z % 10) ∷ []) (sym (div-one n))
last_front (suc d) n =
    ap (λ l. l ++ ((48 + n % 10) ∷ [])) (last_front d (n / 10))
    ∙ ap (λ z. (48 + z % 10) ∷ last_digits (suc d) n) (div-div-eq-div-mul n 10 (10 ^ d) ∙ ap (λ z. n / z) (sym (pow-succ' 10 d)))

-- and they are its last digits
pub value_last : (m : ℕ) (l : List ℕ) → all is_digit l ≡ true → last_digits (length l) (value_on m l) ≡ l
unfolding value_on all last_digits
value_last m [] e = refl
value_last m (b ∷ l) e =
    let h = digit_value b (and_left (is_digit b) (all is_digit l) e) in
    let rest = and_right (is_digit b) (all is_digit l) e in
    let first : value_on (m * 10 + value b) l / 10 ^ length l % 10 ≡ value b = ap (λ z. z % 10) (value_cut (m * 10 + value b) l rest) ∙ omega (arith, h.0) in
    last_front (length l) (value_on (m * 10 + value b) l) ∙ ap₂ ◌∷◌ (ap (λ z. 48 + z) first ∙ h.1) (value_last (m * 10 + value b) l rest)

-- ---- the digits that `decimal` writes
pub record Writes (n : ℕ) (l : List ℕ) : Type 0 where
  pub digits : some_of is_digit l ≡ true
  pub back : value_on 0 l ≡ n

one_more : (n : ℕ) (l : List ℕ) → all is_digit l ≡ true → value_on 0 l ≡ n / 10 → Writes n (l ++ ((48 + n % 10) ∷ []))
one_more n l e back =
    record {
      digits = some_snoc is_digit l (48 + n % 10) e (is_digit_lem (n % 10) (omega arith));
      back = value_snoc 0 l (48 + n % 10) ∙ omega arith;
    }

one_digit_lem : (n : ℕ) → n < 10 → Writes n ((48 + n) ∷ [])
one_digit_lem n h = record { digits = some_snoc is_digit [] (48 + n) (all_nil is_digit) (is_digit_lem n h); back = sym (value_one (48 + n)) ∙ omega arith }

writes : (k n : ℕ) → n < 10 ^ suc k → Writes n (decimal_up_to k n)
unfolding decimal_up_to
writes zero n h = one_digit_lem n h
writes (suc k) n h =
    let front = writes k (n / 10) (omega arith) in
    branch_on (Writes n) (ltb n 10) (λ e. one_digit_lem n (ltb-true n 10 e)) (λ e. one_more n (decimal_up_to k (n / 10)) (some_all is_digit (decimal_up_to k (n / 10)) front.digits) front.back)

pub decimal_writes : (n : ℕ) → n < 10 ^ 20 → Writes n (decimal n)
unfolding decimal
decimal_writes n h = writes 19 n h

up_to_length : (k n j : ℕ) → n < 10 ^ suc j → length (decimal_up_to k n) ≤ suc j
unfolding decimal_up_to
up_to_length zero n j h = omega arith
up_to_length (suc k) n zero h = rw (lt-ltb n 10 h, decimal_up_to) (omega arith)
up_to_length (suc k) n (suc j) h =
    let front = up_to_length k (n / 10) j (omega arith) in
    branch_on (λ l. length l ≤ suc (suc j)) (ltb n 10) {x = (48 + n) ∷ []} {y = decimal_up_to k (n / 10) ++ ((48 + n % 10) ∷ [])} (λ e. omega arith)
    (λ e. simp length-append (omega arith))

pub decimal_short : (l : List ℕ) → some_of is_digit l ≡ true → length (decimal (value_on 0 l)) ≤ length l
unfolding decimal
decimal_short [] e = absurd (false≢true e)
decimal_short (b ∷ l) e = up_to_length 19 (value_on 0 (b ∷ l)) (length l) (value_below (b ∷ l) e)
