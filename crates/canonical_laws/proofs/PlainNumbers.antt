-- A numeral in its plain spelling: its decimals are kept, and `decimal` writes what stands before the point.
use Rattle.std.specs.Prelude.{ℕ, ◌*◌, ◌/◌, ◌^◌, ◌≤◌, ◌≡◌, refl, Bool, true, false, not, ◌&&◌, eqb, leb, ltb, length}
use Rattle.std.proofs.Common.{arith, sym, ap, ◌∙◌, ltb-true}
use Rattle.std.proofs.Math.Path.{ap₂}
use Rattle.std.proofs.lemmas.Bool.{false≢true}
use Rattle.std.proofs.Math.Option.{Option, none, some}
use mathlib.Core.List.{List, [], ◌∷◌, ◌++◌}
use Rattle.basics.specs.Tests.{and_left, and_right, both}
use Rattle.scope.specs.Bytes.{is_digit, dot}
use Rattle.scope.specs.Canonical.{decimal, decimals, size}
use Rattle.scope.specs.Grammar.{Numeral, print_behind, print_numeral, good_behind, good_numeral, some_of, value_on, fraction, signed_by, means_numeral}
use Rattle.scope.specs.Limits.{size_limit, decimal_limit}
use Rattle.scope.specs.Lists.{all}
use Rattle.scope.specs.Refusals.{in_range}
use Rattle.scope.specs.Tables.{bare_number}
use Rattle.grammar_laws.proofs.Lists.{all_nil, some_all, value_append}
use Rattle.canonical_laws.proofs.Decimal.{Writes, value_cut, value_last, cut_below, decimal_writes, decimal_short}
use Rattle.canonical_laws.specs.Plainly.{digits_of, plain_numeral, plain_minus}

-- ---- behind the point
behind_digits : (f : Option (List ℕ)) → good_behind f ≡ true → all is_digit (fraction f) ≡ true
behind_digits none e = all_nil is_digit
behind_digits (some f) e = some_all is_digit f e

behind_text : (m : ℕ) (f : Option (List ℕ)) → good_behind f ≡ true → decimals (length (fraction f)) (value_on m (fraction f)) ≡ print_behind f
unfolding decimals
behind_text m none e = refl
behind_text m (some []) e = absurd (false≢true e)
behind_text m (some (b ∷ f)) e = ap (λ l. dot ∷ l) (value_last m (b ∷ f) e)

sign_once : (a b : Bool) → ((a && b) && b) ≡ (a && b)
sign_once false b = refl
sign_once true true = refl
sign_once true false = refl

pub front_short : (n : Numeral) → good_numeral n ≡ true → length (plain_numeral n).whole ≤ length n.whole
front_short n e = decimal_short n.whole (and_left (some_of is_digit n.whole) (good_behind n.behind) e)

-- ---- a numeral in range
module _ {P : Type 0} (i : P) (minus : Bool) (n : Numeral) (fine : good_numeral n ≡ true) (narrow : in_range (means_numeral i minus n) ≡ true) where
  abbrev front : ℕ
  front = value_on 0 n.whole

  abbrev behind : List ℕ
  behind = fraction n.behind

  behind_good : good_behind n.behind ≡ true
  behind_good = and_right (some_of is_digit n.whole) (good_behind n.behind) fine

  split : digits_of n ≡ value_on front behind
  split = value_append 0 n.whole behind

  cut : digits_of n / 10 ^ length behind ≡ front
  cut = ap (λ z. z / 10 ^ length behind) split ∙ value_cut front behind (behind_digits n.behind behind_good)

  writes : Writes front (decimal front)
  writes =
      let small = ltb-true (digits_of n) (size_limit * 10 ^ length behind) (and_right (leb (length behind) decimal_limit) (ltb (digits_of n) (size_limit * 10 ^ length behind)) narrow) in
      decimal_writes front (omega (arith, (cut_below (digits_of n) (length behind) size_limit).1 small, cut))

  pub numeral_good : good_numeral (plain_numeral n) ≡ true
  numeral_good = both (some_of is_digit (decimal front)) (good_behind n.behind) writes.digits behind_good

  numeral_digits : digits_of (plain_numeral n) ≡ digits_of n
  numeral_digits = value_append 0 (decimal front) behind ∙ ap (λ z. value_on z behind) writes.back ∙ sym split

  pub numeral_text : size (means_numeral i minus n) ≡ print_numeral (plain_numeral n)
  unfolding size
  numeral_text = ap₂ ◌++◌ (ap decimal cut) (ap (decimals (length behind)) split ∙ behind_text front n.behind behind_good)

  pub numeral_means : {Q : Type 0} (j : Q) → bare_number (means_numeral j (plain_minus minus n) (plain_numeral n)) ≡ bare_number (means_numeral i minus n)
  numeral_means j =
      ap (λ z. signed_by tt (plain_minus minus n) z (length behind)) numeral_digits
      ∙ ap (λ z. record { minus = z; digits = digits_of n; decimals = length behind; at = tt }) (sign_once minus (not (eqb (digits_of n) 0)))
