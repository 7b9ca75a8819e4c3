-- A text of digits only is one run of digits. Assumes nothing.
use mathlib.Core.Path.{◌≡◌, refl, sym, ◌∙◌}
use mathlib.Core.Bool.{Bool, true, false, cond, ◌&&◌, not}
use mathlib.Core.List.{List, [], ◌∷◌}
use Prim.Native.Nat.{ℕ, zero, suc, ◌+◌, ◌-◌, ◌<◌, ◌≤◌}
use native.Mathlib.Omega.{arith}
use lib.Dec.{leb, leb-zero, leb-suc-suc, leb-suc-zero}
use borrow.Author.Tests.{le-leb, lt-leb, leb-true, leb-false}
use Rattle.basics.specs.Choice.{by_test}
use lib.ListN.{length, take, drop, length-drop, length-take}
use Rattle.scope.specs.Bytes.{is_digit}
use Rattle.scope.specs.Lists.{none?, all, part}
use Rattle.classes.specs.Runs.{span}

all_run : (p : ℕ → Bool) (n : ℕ) (l : List ℕ) → n ≤ length l → leb n (span p l) ≡ all p (take n l)
unfolding all span
all_run p zero l h = leb-zero (span p l)
all_run p (suc n) [] h = absurd (omega arith)
all_run p (suc n) (b ∷ l) h = go (p b) (all_run p n l (omega arith))
  where
    go : (x : Bool) → leb n (span p l) ≡ all p (take n l) → leb (suc n) (cond x (suc (span p l)) 0) ≡ (x && all p (take n l))
    go true e = leb-suc-suc n (span p l) ∙ e
    go false e = leb-suc-zero n

some_there : (t : List ℕ) → 0 < length t → none? t ≡ false
some_there [] h = absurd (omega arith)
some_there (b ∷ t) h = refl

-- a bound, both sides moved by the same number
moved : (a n k to e : ℕ) → to ≡ a + n → e ≡ a + k → leb to e ≡ leb n k
moved a n k to e p q =
    by_test (leb n k)
    (λ t. le-leb to e (omega (arith, leb-true n k t)) ∙ sym t)
    (λ t. lt-leb to e (omega (arith, leb-false n k t)) ∙ sym t)

pub digits_only : (line : List ℕ) (from to e : ℕ) → from < to → to ≤ length line → e ≡ from + span is_digit (drop from line)
    → leb to e ≡ (not (none? (part from (to - from) line)) && all is_digit (part from (to - from) line))
digits_only line from to e h room q =
    let k : to ≡ from + (to - from) = omega arith in
    let n : 0 < length (part from (to - from) line) = omega (arith, length-take (to - from) (drop from line), length-drop from line) in
    let g : to - from ≤ length (drop from line) = omega (arith, length-drop from line) in
    rw (some_there (part from (to - from) line) n)
    (moved from (to - from) (span is_digit (drop from line)) to e k q ∙ all_run is_digit (to - from) (drop from line) g)
