-- Where a text has a pair that is too deep: not among bytes that open and close nothing.
use mathlib.Core.Path.{◌≡◌, refl, sym, ap, ◌∙◌}
use mathlib.Core.Bool.{Bool, true, false, cond, ◌||◌}
use mathlib.Core.List.{List, [], ◌∷◌, ◌++◌, append-nil}
use Prim.Native.Nat.{ℕ, zero, suc, ◌+◌, ◌-◌, ◌≤◌}
use native.Mathlib.Omega.{arith}
use native.Mathlib.Nat.{add-zero}
use borrow.Author.Tests.{ne_eqb, leb-true}
use lib.Dec.{eqb, leb}
use lib.ListN.{take, drop}
use lib.Seq.{take-add, drop-drop}
use Rattle.basics.specs.Tests.{and_right, neither}
use Rattle.classes.specs.Runs.{span}
use Rattle.classes.proofs.Classes.{letter_plain, plain_quiet}
use Rattle.scope.specs.Bytes.{is_letter, is_digit, is_alnum, is_opening, is_shutting}
use Rattle.scope.specs.Refusals.{least, too_deep}
use Rattle.std.specs.Prelude.{None}
use Rattle.values.specs.Says.{coded}
use Rattle.values.specs.Within.{deep_in}

-- a byte opens and closes nothing
abbrev pub Quiet : ℕ → Type 0
Quiet b = (is_opening b ≡ false) × (is_shutting b ≡ false)

pub digit_quiet : (b : ℕ) → is_digit b ≡ true → Quiet b
digit_quiet b e =
    let k = leb-true b 57 (and_right (leb 48 b) (leb b 57) e) in (
      neither (eqb b 91) (eqb b 123) (ne_eqb b 91 (λ f. omega arith)) (ne_eqb b 123 (λ f. omega arith)),
      neither (eqb b 93) (eqb b 125) (ne_eqb b 93 (λ f. omega arith)) (ne_eqb b 125 (λ f. omega arith)),
    )

pub alnum_quiet : (b : ℕ) → is_alnum b ≡ true → Quiet b
alnum_quiet b e = go (is_letter b) refl e
  where
    go : (x : Bool) → is_letter b ≡ x → x || is_digit b ≡ true → Quiet b
    go true w f = plain_quiet b (letter_plain b w)
    go false w f = digit_quiet b f

module _ (p : ℕ → Bool) (quiet : (b : ℕ) → p b ≡ true → Quiet b) where
  -- bytes of the class leave the depth as it is
  pub deep_past : (l : List ℕ) (n d i : ℕ) (m : List ℕ) → n ≤ span p l → too_deep d i (take n l ++ m) ≡ too_deep d (i + n) m
  unfolding span too_deep
  deep_past l zero d i m k = rw add-zero
  deep_past [] (suc n) d i m k = absurd (omega arith)
  deep_past (b ∷ l) (suc n) d i m k = go (p b) refl k (λ q. deep_past l n d (i + 1) m q)
    where
      go : (x : Bool) → p b ≡ x → suc n ≤ cond x (suc (span p l)) 0 → (n ≤ span p l → too_deep d (i + 1) (take n l ++ m) ≡ too_deep d (i + 1 + n) m)
          → too_deep d i (b ∷ (take n l ++ m)) ≡ too_deep d (i + suc n) m
      go true e q ih =
          let w = quiet b e in
          let z : i + 1 + n ≡ i + suc n = omega arith in
          rw (w.0, w.1) (ih (omega arith) ∙ rw z)
      go false e q ih = absurd (omega arith)

  -- a text of such bytes has no pair
  pub none_deep : (line : List ℕ) (from to : ℕ) → to ≤ from + span p (drop from line) → None ≡ deep_in line from to
  unfolding least too_deep
  none_deep line from to k =
      sym
      (ap (λ x. coded (least (too_deep 0 from x))) (sym (append-nil (take (to - from) (drop from line))))
      ∙ ap (λ x. coded (least x)) (deep_past (drop from line) (to - from) 0 from [] (omega arith)))

  -- a text that begins with such bytes
  pub deep_behind : (line : List ℕ) (from scan to : ℕ) → from ≤ scan → scan ≤ to → scan ≤ from + span p (drop from line) → deep_in line scan to ≡ deep_in line from to
  deep_behind line from scan to a b k =
      let x : to - from ≡ (scan - from) + (to - scan) = omega arith in
      let y : from + (scan - from) ≡ scan = omega arith in
      ap (λ z. coded (least z))
      (sym
      (ap (too_deep 0 from) (rw (x, take-add (scan - from) (to - scan) (drop from line), drop-drop (scan - from) from line))
      ∙ deep_past (drop from line) (scan - from) 0 from (take (to - scan) (drop (from + (scan - from)) line)) (omega arith)
      ∙ rw y))
