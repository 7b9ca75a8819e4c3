-- How far a number is written, from its leading digits on: of the last s times k digits, those before the last s times i. Assumes nothing.
use mathlib.Core.Path.{◌≡◌, ap, sym, ◌∙◌}
use mathlib.Core.List.{List, [], ◌∷◌, ◌++◌}
use Prim.Native.Nat.{ℕ, suc, ◌+◌, ◌-◌, ◌*◌, ◌/◌, ◌%◌, ◌^◌, ◌≤◌, ◌<◌}
use native.Mathlib.Nat.{add_comm, one-mul, mul-zero, mul-suc, div-one, div-lt_iff_lt-mul, div-div-eq-div-mul}
use native.Mathlib.Omega.{arith}
use lib.Pow.{pow-add}
use Rattle.scope.specs.Canonical.{last_digits}
use Rattle.figures.specs.Written.{Puts, DigitsIn, Grouped, decimal_most, group_size}
use Rattle.figures.proofs.Digits.{last_split, at_most}
use Rattle.figures.proofs.Storing.{puts_none, puts_of, puts_join}
use Rattle.tens.proofs.Powers.{power_some}

pub record Begun (s n k : ℕ) (o : List ℕ) (at : ℕ) (out : List ℕ) (i a : ℕ) : Type 0 where
  pub left : i ≤ k
  pub puts : Puts (s * (k - i)) o at (last_digits (s * (k - i)) (n / 10 ^ (s * i))) out a

module _ (s n k : ℕ) {o : List ℕ} {at : ℕ} where
  pub begun_none : Begun s n k o at o k at
  unfolding last_digits
  begun_none = let e : k - k ≡ 0 = omega arith in record { left = omega arith; puts = rw (e, mul-zero s) (puts_none o at) }

  pub begun_next :
      {p : List ℕ} {i q : ℕ} {out : List ℕ} {r : ℕ} → 0 < i → Begun s n k o at p i q
      → Puts s p q (last_digits s (n / 10 ^ (s * (i - 1)))) out r → Begun s n k o at out (i - 1) r
  begun_next {i = i} z b d =
      let x = n / 10 ^ (s * (i - 1)) in
      let m = s * (k - i) in
      let more : k - (i - 1) ≡ suc (k - i) = omega (arith, b.left) in
      let back : i ≡ suc (i - 1) = omega arith in
      let off : n / 10 ^ (s * i) ≡ x / 10 ^ s =
      ap (λ j. n / 10 ^ j) (ap (λ j. s * j) back ∙ mul-suc s (i - 1)) ∙ ap (λ p. n / p) (pow-add 10 (s * (i - 1)) s)
      ∙ sym (div-div-eq-div-mul n (10 ^ (s * (i - 1))) (10 ^ s)) in
      let text : last_digits m (n / 10 ^ (s * i)) ++ last_digits s x ≡ last_digits (m + s) x =
      ap (λ y. last_digits m y ++ last_digits s x) off ∙ sym (last_split s m x) ∙ ap (λ j. last_digits j x) (add_comm s m) in
      record { left = omega (arith, b.left); puts = rw (more, mul-suc s (k - i)) (puts_of text (puts_join b.puts d)) }

  pub begun_all : {out : List ℕ} {a : ℕ} → Begun s n k o at out 0 a → Puts (s * k) o at (last_digits (s * k) n) out a
  begun_all b = let e : k - 0 ≡ k = omega arith in rw (e, mul-zero s, div-one n) at b.puts

-- a digit is the last one of what is left
pub one_next :
    (n i : ℕ) {p : List ℕ} {q b : ℕ} {out : List ℕ} {r : ℕ} → b ≡ 48 + n / 10 ^ i % 10 → Puts 1 p q (b ∷ []) out r
    → Puts 1 p q (last_digits 1 (n / 10 ^ (1 * i))) out r
unfolding last_digits
one_next n i e d = puts_of (rw (one-mul i, e)) d

-- ---- the leading digits of a number, and the groups behind them
module _ (g n : ℕ) (h : Grouped g n) where
  -- no more groups than a number has digits
  pub grouped_few : group_size * g < decimal_most
  grouped_few = omega (arith, at_most (group_size * g) (decimal_most - 1) n h.0 h.2)

  lead_below : (d : ℕ) → n < 10 ^ (d + group_size * g) → n / 10 ^ (group_size * g) < 10 ^ d
  lead_below d l =
      (div-lt_iff_lt-mul {k = 10 ^ (group_size * g)} {x = n} {y = 10 ^ d} (power_some (group_size * g))).1 (rw (sym (pow-add 10 d (group_size * g))) l)

  pub lead_short : n / 10 ^ (group_size * g) < 10 ^ group_size
  lead_short = let e : group_size * (g + 1) ≡ group_size + group_size * g = omega arith in lead_below group_size (rw e at h.1)

  pub lead_few : {r : ℕ} → DigitsIn (n / 10 ^ (group_size * g)) r → r + group_size * g ≤ decimal_most
  lead_few d =
      let f = grouped_few in
      let room = decimal_most - group_size * g - 1 in
      let e : decimal_most ≡ room + 1 + group_size * g = omega (arith, f) in
      let few = d.least room (lead_below (room + 1) (rw (sym e) h.2)) in
      omega (arith, few, f)
