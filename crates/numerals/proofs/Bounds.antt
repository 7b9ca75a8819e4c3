-- Where a number ends, and how large it is. Assumes nothing.
use Prim.Native.Nat.{ℕ, zero, suc, ◌+◌, ◌-◌, ◌*◌, ◌^◌, ◌≤◌, ◌<◌}
use mathlib.Core.Path.{◌≡◌, refl, sym, subst}
use mathlib.Core.Bool.{Bool, true, false, cond}
use mathlib.Core.Option.{Option, none, some}
use mathlib.Core.List.{List, [], ◌∷◌}
use native.Mathlib.Omega.{arith}
use lib.Dec.{leb, ltb}
use lib.IntN.{nat_abs}
use lib.ListN.{length, drop, length-drop}
use borrow.Author.Tests.{leb-true, ltb-true}
use Rattle.scope.specs.Bytes.{is_digit, value}
use Rattle.scope.specs.Line.{Number}
use Rattle.scope.specs.Lists.{given}
use Rattle.scope.specs.Content.{Digits, signed, whole, digit_step, number_end}
use Rattle.scope.specs.Limits.{size_limit, decimal_limit}
use Rattle.scope.specs.Refusals.{in_range}
use Rattle.scope.specs.Tables.{millionths}
use Rattle.scope.specs.Tables as tables
use Rattle.numerals.specs.declared.Num.{Num}
use Rattle.std.specs.Prelude.{Result, Ok, Err, Some, None, Option as Perhaps}
use Rattle.scope.specs.declared.tables.Number.{Number as Kept}
use Rattle.scope.specs.declared.grammar.Stuck.{Stuck}
use Rattle.numerals.specs.Numerals.{cap, Scanned, found, lost, scan_number, kept, num_of}
use Rattle.basics.specs.Tests.{both_of}
use Rattle.numerals.proofs.Ranges.{below_cap}

-- a number that starts at i ends behind i and before n, with at most 6 decimals and below 1,000,000 where it is in range
abbrev pub Small : Perhaps Kept → Type 0
Small (Some v) = (v.decimals ≤ decimal_limit) × (nat_abs v.millionths < cap)
Small None = Unit {0}

abbrev pub Ended : Result Num Stuck → ℕ → ℕ → Type 0
Ended (Ok r) i n = (i < r.next) × (r.next ≤ n) × Small r.number
Ended (Err e) i n = (i ≤ e.at) × (e.at ≤ n)

abbrev Past : Scanned → ℕ → ℕ → Type 0
Past (found x j) i n = (i ≤ j) × (j ≤ n)
Past (lost j) i n = (i ≤ j) × (j ≤ n)

past_end : (o : Option (Number ℕ)) (i n : ℕ) → i ≤ n → Past (given o (λ x. found x i) (lost i)) i n
past_end none i n h = omega arith
past_end (some x) i n h = omega arith

past_more : (r : Scanned) (i n : ℕ) → Past r (i + 1) n → Past r i n
past_more (found x j) i n h = omega arith
past_more (lost j) i n h = omega arith

past_step : (o : Option Digits) (go : Digits → Scanned) (e : Option (Number ℕ)) (i n : ℕ) → i < n → ((d : Digits) → Past (go d) (i + 1) n)
    → Past (given o go (given e (λ x. found x i) (lost i))) i n
past_step none go e i n h ih = past_end e i n (omega arith)
past_step (some d) go e i n h ih = past_more (go d) i n (ih d)

past : (p : ℕ) (d : Digits) (l : List ℕ) (i n : ℕ) → i + length l ≡ n → Past (scan_number p d l i) i n
unfolding scan_number
past p d [] i n e = past_end (number_end p d) i n (omega arith)
past p d (b ∷ l) i n e =
    past_step (digit_step d b) (λ d'. scan_number p d' l (i + 1)) (number_end p d) i n (omega arith) (λ d'. past p d' l (i + 1) n (omega arith))

-- the size of a number in range
abs_signed : (s : Bool) (m : ℕ) → nat_abs (tables.signed s m) ≡ m
abs_signed true zero = refl
abs_signed true (suc m) = refl
abs_signed false m = refl

ended_found : (x : Number ℕ) (j i n : ℕ) → i < j → j ≤ n → Ended (num_of (found x j)) i n
ended_found x j i n h l = go (in_range x) refl
  where
    go : (b : Bool) → in_range x ≡ b → (i < j) × (j ≤ n) × Small (cond b (Some (kept x)) None)
    go true e =
        let p = both_of (leb x.decimals decimal_limit) (ltb x.digits (size_limit * 10 ^ x.decimals)) e in
        let k = leb-true x.decimals decimal_limit p.0 in
        let a = abs_signed x.minus (x.digits * 10 ^ (decimal_limit - x.decimals)) in
        (h, l, (k, subst (λ (y : ℕ). y < cap) (sym a) (below_cap k (ltb-true _ _ p.1))))
    go false e = (h, l, tt)

ended_behind : (r : Scanned) (i n : ℕ) → Past r (i + 1) n → Ended (num_of r) i n
ended_behind (found x j) i n h = ended_found x j i n (omega arith) (omega arith)
ended_behind (lost j) i n h = (omega arith, omega arith)

ended_signed : (p : ℕ) (s : Bool) (l : List ℕ) (i n : ℕ) → i + length l ≡ n → Ended (num_of (scan_number p (signed s) l i)) i n
unfolding scan_number digit_step number_end
ended_signed p s [] i n e = (omega arith, omega arith)
ended_signed p s (b ∷ l) i n e = go (is_digit b)
  where
    go : (x : Bool) → Ended (num_of (given (cond x (some (whole s (value b))) none) (λ d. scan_number p d l (i + 1)) (lost i))) i n
    go true = ended_behind (scan_number p (whole s (value b)) l (i + 1)) i n (past p (whole s (value b)) l (i + 1) n (omega arith))
    go false = (omega arith, omega arith)

pub number_in : (p : ℕ) (minus : Bool) (s : List ℕ) (at : ℕ) {r : Result Num Stuck} → at ≤ length s → r ≡ num_of (scan_number p (signed minus) (drop at s) at)
    → Ended r at (length s)
number_in p minus s at h e =
    subst (λ (x : Result Num Stuck). Ended x at (length s)) (sym e) (ended_signed p minus (drop at s) at (length s) (omega (arith, length-drop at s)))
