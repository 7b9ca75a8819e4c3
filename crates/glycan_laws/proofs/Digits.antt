-- Counts read from the right: "1 to 99, no leading zeros".
use Rattle.std.specs.Prelude.{ℕ, ◌+◌, ◌*◌, ◌/◌, ◌%◌, ◌≤◌, ◌<◌, ◌≡◌, refl, Bool, true, false, List, [], ◌∷◌, ◌++◌, reverse, eqb, ltb, leb}
use Rattle.std.proofs.Common.{sym, ◌∙◌, subst, ltb-true, ltb-false, lt-ltb, le-ltb, le-leb, ne_eqb}
use Rattle.std.proofs.Math.Path.{ap}
use Rattle.std.proofs.Math.Bool.{cond}
use Rattle.std.proofs.Math.Option.{Option, none, some}
use native.Mathlib.Omega.{arith}
use Rattle.scope.specs.Bytes.{is_digit, value}
use Rattle.basics.specs.Tests.{both}
use Rattle.scope.specs.Glycans.{Way, way, count_text}
use Rattle.glycan_laws.specs.Laws.{CountGood}

abbrev pub one_digit : ℕ → List ℕ → Option (Way (Option ℕ))
one_digit b t = cond (eqb b 48) none (some (way (some (value b)) t))

abbrev pub two_digits : ℕ → ℕ → List ℕ → Option (Way (Option ℕ))
two_digits b c t = cond (eqb c 48) none (some (way (some (value c * 10 + value b)) t))

abbrev pub behind_digit : ℕ → List ℕ → Option (Way (Option ℕ))
behind_digit b [] = one_digit b []
behind_digit b (c ∷ t) = cond (is_digit c) (two_digits b c t) (one_digit b (c ∷ t))

-- the count that ends a text, if any, read from the right; none where it has a zero in front
unfoldable pub last_count : List ℕ → Option (Way (Option ℕ))
last_count [] = some (way none [])
last_count (b ∷ t) = cond (is_digit b) (behind_digit b t) (some (way none (b ∷ t)))

-- ---- the digits of a count
pub digit : (n : ℕ) → n ≤ 9 → is_digit (48 + n) ≡ true
digit n h = both (leb 48 (48 + n)) (leb (48 + n) 57) (le-leb 48 (48 + n) (omega arith)) (le-leb (48 + n) 57 (omega arith))

pub one_digit_lem : (n : ℕ) → n < 10 → count_text (some n) ≡ (48 + n) ∷ []
one_digit_lem n h = ap (λ b. cond b ((48 + n) ∷ []) ((48 + n / 10) ∷ (48 + n % 10) ∷ [])) (lt-ltb n 10 h)

pub two_digits_lem : (n : ℕ) → 10 ≤ n → count_text (some n) ≡ (48 + n / 10) ∷ (48 + n % 10) ∷ []
two_digits_lem n h = ap (λ b. cond b ((48 + n) ∷ []) ((48 + n / 10) ∷ (48 + n % 10) ∷ [])) (le-ltb n 10 h)

-- the digits of a count: one, or two of which the first is not zero
pub digits_of_lem :
    (n : ℕ) → 1 ≤ n → n ≤ 99 → (Q : List ℕ → Type 0) → ((d : ℕ) → 1 ≤ d → d ≤ 9 → n ≡ d → Q ((48 + d) ∷ []))
    → ((d e : ℕ) → 1 ≤ d → d ≤ 9 → e ≤ 9 → n ≡ d * 10 + e → Q ((48 + d) ∷ (48 + e) ∷ [])) → Q (count_text (some n))
digits_of_lem n h k Q one two = by (ltb n 10) refl
  where
    few : n < 10 → n ≤ 9
    few l = omega arith

    some_tens : 10 ≤ n → 1 ≤ n / 10
    some_tens l = omega arith

    few_tens : n / 10 ≤ 9
    few_tens = omega arith

    few_ones : n % 10 ≤ 9
    few_ones = omega arith

    split : n ≡ n / 10 * 10 + n % 10
    split = omega arith

    by : (b : Bool) → ltb n 10 ≡ b → Q (count_text (some n))
    by true q = subst Q (sym (one_digit_lem n (ltb-true n 10 q))) (one n h (few (ltb-true n 10 q)) refl)
    by false q =
        subst Q (sym (two_digits_lem n (ltb-false n 10 q))) (two (n / 10) (n % 10) (some_tens (ltb-false n 10 q)) few_tens few_ones split)

-- the same from the right
pub by_digits :
    (n : ℕ) → 1 ≤ n → n ≤ 99 → (Q : List ℕ → Type 0) → ((d : ℕ) → 1 ≤ d → d ≤ 9 → n ≡ d → Q ((48 + d) ∷ []))
    → ((d e : ℕ) → 1 ≤ d → d ≤ 9 → e ≤ 9 → n ≡ d * 10 + e → Q ((48 + e) ∷ (48 + d) ∷ [])) → Q (reverse (count_text (some n)))
by_digits n h k Q one two = digits_of_lem n h k (λ l. Q (reverse l)) one two

-- ---- a count is found where it stands behind a byte that is no digit
module _ (x : ℕ) (t : List ℕ) (plain : is_digit x ≡ false) where
  one_found : (n d : ℕ) → 1 ≤ d → d ≤ 9 → n ≡ d → last_count ((48 + d) ∷ x ∷ t) ≡ some (way (some n) (x ∷ t))
  unfolding last_count
  one_found n d h k q =
      ap (λ b. cond b (behind_digit (48 + d) (x ∷ t)) (some (way none ((48 + d) ∷ x ∷ t)))) (digit d k)
      ∙ ap (λ b. cond b (two_digits (48 + d) x t) (one_digit (48 + d) (x ∷ t))) plain
      ∙ ap (λ b. cond b none (some (way (some (value (48 + d))) (x ∷ t)))) (ne_eqb (48 + d) 48 (λ e. omega arith))
      ∙ ap (λ m. some (way (some m) (x ∷ t))) same
    where
      same : value (48 + d) ≡ n
      same = omega arith

  two_found : (n d e : ℕ) → 1 ≤ d → d ≤ 9 → e ≤ 9 → n ≡ d * 10 + e → last_count ((48 + e) ∷ (48 + d) ∷ x ∷ t) ≡ some (way (some n) (x ∷ t))
  unfolding last_count
  two_found n d e h k l q =
      ap (λ b. cond b (behind_digit (48 + e) ((48 + d) ∷ x ∷ t)) (some (way none ((48 + e) ∷ (48 + d) ∷ x ∷ t)))) (digit e l)
      ∙ ap (λ b. cond b (two_digits (48 + e) (48 + d) (x ∷ t)) (one_digit (48 + e) ((48 + d) ∷ x ∷ t))) (digit d k)
      ∙ ap (λ b. cond b none (some (way (some (value (48 + d) * 10 + value (48 + e))) (x ∷ t)))) (ne_eqb (48 + d) 48 (λ z. omega arith))
      ∙ ap (λ m. some (way (some m) (x ∷ t))) sum
    where
      sum : value (48 + d) * 10 + value (48 + e) ≡ n
      sum = omega arith

  none_found : last_count (x ∷ t) ≡ some (way none (x ∷ t))
  unfolding last_count
  none_found = ap (λ b. cond b (behind_digit x t) (some (way none (x ∷ t)))) plain

  pub count_found : (c : Option ℕ) → CountGood c → last_count (reverse (count_text c) ++ (x ∷ t)) ≡ some (way c (x ∷ t))
  count_found none g = none_found
  count_found (some n) g = by_digits n g.0 g.1 (λ l. last_count (l ++ (x ∷ t)) ≡ some (way (some n) (x ∷ t))) (one_found n) (two_found n)
