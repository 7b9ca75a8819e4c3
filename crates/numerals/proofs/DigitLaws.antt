-- Laws of `digits_from` at a place of a list, and of a value that is kept at the cap or below. Assumes nothing.
use Prim.Native.Nat.{ℕ, ◌+◌, ◌-◌, ◌*◌, ◌≤◌, ◌<◌, min}
use mathlib.Core.Path.{◌≡◌, refl, sym, ap, ◌∙◌}
use mathlib.Core.Bool.{Bool, true, false}
use mathlib.Core.List.{List, [], ◌∷◌}
use native.Mathlib.Numerals.{add-one}
use native.Mathlib.Omega.{arith}
use lib.Dec.{leb}
use lib.ListN.{length, get_or, drop, drop_of_length-le}
use lib.Seq.{drop-cons, get_or-drop}
use Rattle.std.specs.List.{slice_range}
use borrow.Author.Tests.{leb-true}
use Rattle.scope.specs.Bytes.{is_digit, value}
use Rattle.basics.specs.Tests.{both_of}
use Rattle.classes.proofs.Runs.{range_to_end, RunGoesOn, run_enters, run_goes_on, run_stops, run_ends}
use Rattle.numerals.specs.Numerals.{cap, digits_from, DigitsAt}

-- 0 to 9 are 48 to 57
pub digit_bounds : (b : ℕ) → is_digit b ≡ true → (48 ≤ b) × (b ≤ 57)
digit_bounds b e =
    let p = both_of (leb 48 b) (leb b 57) e in
    (leb-true 48 b p.0, leb-true b 57 p.1)

module _ (s : List ℕ) (i v : ℕ) where
  value_end_lem : length s ≤ i → digits_from v (drop i s) ≡ v
  unfolding digits_from
  value_end_lem h = rw (drop_of_length-le s h)

  module _ (h : i < length s) where
    value_stop : is_digit (get_or s i 0) ≡ false → digits_from v (drop i s) ≡ v
    unfolding digits_from
    value_stop e = rw (drop-cons s i 0 h, e, digits_from)

    value_more : is_digit (get_or s i 0) ≡ true → digits_from v (drop i s) ≡ digits_from (v * 10 + value (get_or s i 0)) (drop (i + 1) s)
    unfolding digits_from
    value_more e = rw (drop-cons s i 0 h, add-one i, e, digits_from)

cap_step : (v d : ℕ) → min cap (min cap v * 10 + d) ≡ min cap (v * 10 + d)
cap_step v d = omega arith

-- to keep a value at the cap or below on the way changes nothing below the cap
pub cap_run : (v : ℕ) (l : List ℕ) → min cap (digits_from (min cap v) l) ≡ min cap (digits_from v l)
unfolding digits_from
cap_run v [] = omega arith
cap_run v (b ∷ l) = go (λ u. cap_run u l) (is_digit b) refl
  where
    go : ((u : ℕ) → min cap (digits_from (min cap u) l) ≡ min cap (digits_from u l)) → (x : Bool) → is_digit b ≡ x
        → min cap (digits_from (min cap v) (b ∷ l)) ≡ min cap (digits_from v (b ∷ l))
    go ih true e =
        rw (e, digits_from)
        (sym (ih (min cap v * 10 + (b - 48))) ∙ ap (λ u. min cap (digits_from u l)) (cap_step v (b - 48)) ∙ ih (v * 10 + (b - 48)))
    go ih false e = rw (e, digits_from) (omega arith)

-- i is reached from at through digits, and m is their value so far behind v
pub record SoFar (s : List ℕ) (at v m i : ℕ) : Type 0 where
  pub low : m ≤ cap
  pub same : min cap (digits_from v (drop at s)) ≡ min cap (digits_from m (drop i s))
  pub run : RunGoesOn is_digit s at i

pub digits_start : {s : List ℕ} {at v : ℕ} → v ≤ cap → SoFar s at v v at
digits_start h = record { low = h; same = refl; run = run_enters }

-- t is what the class says of the byte at i
module _ {s : List ℕ} {at v m i : ℕ} (f : SoFar s at v m i) where
  module _ (h : i < length s) {t : Bool} (told : t ≡ is_digit (get_or s i 0)) where
    pub digits_more : t ≡ true → {w : ℕ} → w ≡ min cap (m * 10 + value (get_or s i 0)) → SoFar s at v w (i + 1)
    digits_more e {w} q = record {
      low = omega arith;
      same =
          f.same ∙ ap (min cap) (value_more s i m h (sym told ∙ e)) ∙ sym (cap_run _ (drop (i + 1) s))
          ∙ ap (λ u. min cap (digits_from u (drop (i + 1) s))) (sym q);
      run = run_goes_on f.run h told e;
    }

    pub digits_stop : t ≡ false → DigitsAt s at v m i
    digits_stop e = record {
      low = f.low;
      valued = omega (arith, f.low, f.same, value_stop s i m h (sym told ∙ e));
      ends = run_stops f.run h told e;
    }

  pub digits_end : length s ≤ i → DigitsAt s at v m i
  digits_end h = record { low = f.low; valued = omega (arith, f.low, f.same, value_end_lem s i m h); ends = run_ends f.run h }

-- a byte of the rest of a list
pub rest_byte : (s r : List ℕ) (at n : ℕ) → r ≡ slice_range s at (length s) → get_or r n 0 ≡ get_or s (at + n) 0
rest_byte s r at n e = ap (λ l. get_or l n 0) (e ∙ range_to_end s at) ∙ get_or-drop at s n 0

-- the digits behind a number that is kept at the cap
pub cap_behind : (s : List ℕ) (at v w k : ℕ) → DigitsAt s at v w k → (m : ℕ) → v ≡ min cap m → w ≡ min cap (digits_from m (drop at s))
cap_behind s at v w k d m e = d.valued ∙ ap (λ u. min cap (digits_from u (drop at s))) e ∙ cap_run m (drop at s)
