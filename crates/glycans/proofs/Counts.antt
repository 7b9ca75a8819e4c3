-- The count that ends a text: the last byte, and the one before it. Assumes nothing.
use Rattle.std.proofs.Common.{◌≡◌, refl, sym, ap, ap₂, ◌∙◌, arith, Bool, true, false, cond, ◌&&◌, List, [], ◌∷◌, ℕ, ◌+◌, ◌-◌, ◌*◌, ◌/◌, ◌%◌, ◌≤◌, ◌<◌, eqb, ltb, leb, length, get_or, take, length-take, leb-true, eqb-true, eq-eqb, ne_eqb, ltb-true, ltb-false}
use Rattle.std.proofs.Math.Option.{none, some}
use Rattle.std.proofs.lemmas.Bool.{lt-leb, eqb-false}
use Rattle.std.specs.Prelude.{Option as Perhaps, Some, None}
use lib.Seq.{take_all, take-take, get_or-take}
use Rattle.scope.specs.Bytes.{upper, is_lower, is_digit, value}
use Rattle.scope.specs.Glycans.{way, count_text}
use Rattle.basics.specs.Tests.{and_left, and_right}
use Rattle.glycan_laws.proofs.Digits.{one_digit, two_digits, behind_digit, last_count, one_digit_lem, two_digits_lem}
use Rattle.glycan_laws.proofs.Enumerated.{a_digit}
use Rattle.glycan_laws.proofs.Last.{upper_digit}
use Rattle.glycans.specs.declared.Count.{Count}
use Rattle.glycans.specs.Cut.{back, digits_text, CountAt, CountIs, DigitIs}
use Rattle.glycans.proofs.Texts.{back_cons}

-- ---- the digits written of a count
pub dropped : {n : ℕ} → n ≡ 1 → digits_text n ≡ []
dropped {n} e = ap (λ b. count_text (cond b none (some n))) (eq-eqb n 1 e)

pub one_written : {n : ℕ} → (n ≡ 1 → ⊥) → n < 10 → digits_text n ≡ (48 + n) ∷ []
one_written {n} h l = ap (λ b. count_text (cond b none (some n))) (ne_eqb n 1 h) ∙ one_digit_lem n l

pub two_written : {n : ℕ} → 10 ≤ n → digits_text n ≡ (48 + n / 10) ∷ (48 + n % 10) ∷ []
two_written {n} l = ap (λ b. count_text (cond b none (some n))) (ne_eqb n 1 (λ e. omega arith)) ∙ two_digits_lem n l

-- at most one digit of a count of one digit, at most two of any
few_written : (n : ℕ) → n < 10 → length (digits_text n) ≤ 1
few_written n l = by (eqb n 1) refl
  where
    by : (b : Bool) → eqb n 1 ≡ b → length (digits_text n) ≤ 1
    by true q = omega (arith, ap length (dropped (eqb-true n 1 q)))
    by false q = omega (arith, ap length (one_written (eqb-false n 1 q) l))

most_written : (n : ℕ) → length (digits_text n) ≤ 2
most_written n = by (ltb n 10) refl
  where
    by : (b : Bool) → ltb n 10 ≡ b → length (digits_text n) ≤ 2
    by true q = omega (arith, few_written n (ltb-true n 10 q))
    by false q = omega (arith, ap length (two_written (ltb-false n 10 q)))

-- ---- a digit and its upper case
pub digit_range : (b : ℕ) → is_digit b ≡ true → (48 ≤ b) × (b ≤ 57)
digit_range b e = (leb-true 48 b (and_left (leb 48 b) (leb b 57) e), leb-true b 57 (and_right (leb 48 b) (leb b 57) e))

digit_same : (b : ℕ) → is_digit b ≡ true → upper b ≡ b
digit_same b e = let d = a_digit b e in ap upper d.1 ∙ upper_digit (value b) d.0 ∙ sym d.1

other_same : (b : ℕ) → is_digit b ≡ false → is_digit (upper b) ≡ false
unfolding upper
other_same b e = by (is_lower b) refl
  where
    high : is_lower b ≡ true → 57 < b - 32
    high q = let l : 97 ≤ b = leb-true 97 b (and_left (leb 97 b) (leb b 122) q) in omega arith

    out : (a : Bool) → (a && false) ≡ false
    out true = refl
    out false = refl

    by : (z : Bool) → is_lower b ≡ z → is_digit (cond z (b - 32) b) ≡ false
    by true q = ap (λ z. leb 48 (b - 32) && z) (lt-leb (b - 32) 57 (high q)) ∙ out (leb 48 (b - 32))
    by false q = e

-- ---- the last bytes of a text
pub no_bytes : (t : List ℕ) → length t ≡ 0 → CountAt t 0 1
unfolding last_count
no_bytes [] e = record { written = none; counted = refl; few = omega arith; room = omega (arith, ap length (dropped {n = 1} refl)); last = refl }
no_bytes (b ∷ t) e = absurd (omega arith)

module _ (t : List ℕ) (some_byte : 0 < length t) where
  abbrev b : ℕ
  b = get_or t (length t - 1) 0

  abbrev c : ℕ
  c = get_or t (length t - 2) 0

  abbrev front : List ℕ
  front = take (length t - 1) t

  last_byte : back t ≡ upper b ∷ back front
  last_byte = back_cons t some_byte

  -- no digit: no count is written
  pub no_count : is_digit b ≡ false → CountAt t (length t) 1
  unfolding last_count
  no_count e =
      record {
        written = none;
        counted = refl;
        few = omega arith;
        room = omega (arith, ap length (dropped {n = 1} refl));
        last =
            ap last_count last_byte
            ∙ ap (λ z. cond z (behind_digit (upper b) (back front)) (some (way none (upper b ∷ back front)))) (other_same b e)
            ∙ ap (λ z. some (way none z)) (sym last_byte ∙ ap back (sym (take_all (length t) t (omega arith))));
      }

  module _ (digit : is_digit b ≡ true) where
    behind_digit_lem : last_count (back t) ≡ behind_digit b (back front)
    unfolding last_count
    behind_digit_lem =
        ap last_count (last_byte ∙ ap (λ z. z ∷ back front) (digit_same b digit))
        ∙ ap (λ z. cond z (behind_digit b (back front)) (some (way none (b ∷ back front)))) digit

    -- one digit: 0 is no count
    one_is : behind_digit b (back front) ≡ one_digit b (back front) → (r : Perhaps Count) → DigitIs b (length t) r → CountIs t r
    one_is e None q = behind_digit_lem ∙ e ∙ ap (λ z. cond z none (some (way (some (value b)) (back front)))) (eq-eqb b 48 q)
    one_is e (Some k) q =
        let range = digit_range b digit in
        record {
          written = some k.count;
          counted = refl;
          few = omega (arith, q.2);
          room = omega (arith, q.1, few_written k.count (omega (arith, q.2)));
          last =
              behind_digit_lem ∙ e
              ∙ ap (λ z. cond z none (some (way (some (value b)) (back front)))) (ne_eqb b 48 q.0)
              ∙ ap₂ (λ x y. some (way (some x) (back (take y t)))) (sym q.2) (sym q.1);
        }

    pub first_byte : length t ≡ 1 → (r : Perhaps Count) → DigitIs b (length t) r → CountIs t r
    first_byte e =
        let none : front ≡ [] = let z : length t - 1 ≡ 0 = omega arith in ap (λ n. take n t) z in
        one_is (ap (λ z. behind_digit b (back z)) none ∙ ap (λ z. one_digit b (back z)) (sym none))

    module _ (more : length t ≡ 1 → ⊥) where
      abbrev more_front : List ℕ
      more_front = take (length t - 2) t

      before : back front ≡ upper c ∷ back more_front
      before =
          let long : length front ≡ length t - 1 = omega (arith, length-take (length t - 1) t) in
          let e : length front - 1 ≡ length t - 2 = omega arith in
          back_cons front (omega (arith, more))
          ∙ ap₂ (λ x y. upper x ∷ back y)
          (ap (λ n. get_or front n 0) e ∙ get_or-take (length t - 1) t (length t - 2) 0 (omega (arith, more)))
          (ap (λ n. take n front) e ∙ take-take (length t - 2) (length t - 1) t (omega arith))

      pub after_name : is_digit c ≡ false → (r : Perhaps Count) → DigitIs b (length t) r → CountIs t r
      after_name e =
          one_is
          (ap (behind_digit b) before
          ∙ ap (λ z. cond z (two_digits b (upper c) (back more_front)) (one_digit b (upper c ∷ back more_front))) (other_same c e)
          ∙ ap (one_digit b) (sym before))

      module _ (digit-2 : is_digit c ≡ true) where
        two_is : last_count (back t) ≡ two_digits b c (back more_front)
        two_is =
            behind_digit_lem
            ∙ ap (behind_digit b) (before ∙ ap (λ z. z ∷ back more_front) (digit_same c digit-2))
            ∙ ap (λ z. cond z (two_digits b c (back more_front)) (one_digit b (c ∷ back more_front))) digit-2

        -- "no leading zeros"
        pub zero_first : c ≡ 48 → last_count (back t) ≡ none
        zero_first e = two_is ∙ ap (λ z. cond z none (some (way (some (value c * 10 + value b)) (back more_front)))) (eq-eqb c 48 e)

        pub two_digits_is : (c ≡ 48 → ⊥) → CountAt t (length t - 2) ((c - 48) * 10 + (b - 48))
        two_digits_is e =
            let x = digit_range b digit in
            let y = digit_range c digit-2 in
            record {
              written = some ((c - 48) * 10 + (b - 48));
              counted = refl;
              few = omega arith;
              room = omega (arith, more, most_written ((c - 48) * 10 + (b - 48)));
              last = two_is ∙ ap (λ z. cond z none (some (way (some (value c * 10 + value b)) (back more_front)))) (ne_eqb c 48 e);
            }
