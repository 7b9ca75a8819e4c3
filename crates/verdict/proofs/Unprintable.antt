-- Refusal 3 by the run of printable bytes that a line begins with: it is due at the byte behind the run, where there is one.
use mathlib.Core.Path.{◌≡◌, refl, ap, ◌∙◌}
use mathlib.Core.Bool.{Bool, true, false, not, cond}
use mathlib.Core.Option.{Option, none, some}
use mathlib.Core.List.{List, [], ◌∷◌, ◌++◌}
use Prim.Native.Nat.{ℕ, suc, ◌+◌, ◌<◌, ◌≤◌, min}
use native.Mathlib.Omega.{arith}
use borrow.Author.Tests.{leb-true}
use lib.Dec.{leb}
use lib.ListN.{length}
use Rattle.scope.specs.Bytes.{is_printable}
use Rattle.scope.specs.Lists.{given}
use Rattle.scope.specs.Refusals.{due_at, least, unprintable, refusal3}
use Rattle.basics.specs.Each.{Each}
use Rattle.basics.specs.Tests.{and_right}
use Rattle.classes.specs.Runs.{span}
use Rattle.accepted_laws.specs.Within.{Byte}

-- no place of a later byte comes first
later : (i j : ℕ) (s : List ℕ) → i < j → (x : ℕ) → least (unprintable j s) ≡ some x → i < x
unfolding unprintable least
later i j [] h x e = absurd (let z : ◌≡◌ {A = ℕ} 0 1 = cc in omega arith)
later i j (b ∷ s) h x e = go (is_printable b) (least (unprintable (j + 1) s)) refl e (later i (j + 1) s (omega arith))
  where
    first : (y : Option ℕ) → least (unprintable (j + 1) s) ≡ y → ◌≡◌ {A = Option ℕ} (some (given y (min j) j)) (some x) → ((z : ℕ) → least (unprintable (j + 1) s) ≡ some z → i < z) → i < x
    first none f g ih = let q : j ≡ x = cc in omega arith
    first (some z) f g ih = let q : min j z ≡ x = cc in omega (arith, ih z f)

    go : (t : Bool) (y : Option ℕ) → least (unprintable (j + 1) s) ≡ y → least (due_at (not t) j ++ unprintable (j + 1) s) ≡ some x
        → ((z : ℕ) → least (unprintable (j + 1) s) ≡ some z → i < z) → i < x
    go true y f g ih = ih x g
    go false y f g ih = first y f (rw f at g) ih

found_first : (i : ℕ) (s : List ℕ) → some (given (least (unprintable (i + 1) s)) (min i) i) ≡ some i
found_first i s = go (least (unprintable (i + 1) s)) refl
  where
    go : (y : Option ℕ) → least (unprintable (i + 1) s) ≡ y → ◌≡◌ {A = Option ℕ} (some (given y (min i) i)) (some i)
    go none f = refl
    go (some z) f = ap some (let h = later i (i + 1) s (omega arith) z f in omega arith)

first_from : (i : ℕ) (s : List ℕ) → span is_printable s < length s → least (unprintable i s) ≡ some (i + span is_printable s)
unfolding unprintable least span
first_from i [] h = absurd (omega arith)
first_from i (b ∷ s) h = go (is_printable b) h (first_from (i + 1) s)
  where
    go : (t : Bool) → cond t (suc (span is_printable s)) 0 < suc (length s) → (span is_printable s < length s → least (unprintable (i + 1) s) ≡ some (i + 1 + span is_printable s))
        → least (due_at (not t) i ++ unprintable (i + 1) s) ≡ some (i + cond t (suc (span is_printable s)) 0)
    go true k ih = ih (omega arith) ∙ ap some (let e : i + 1 + span is_printable s ≡ i + suc (span is_printable s) = omega arith in e)
    go false k ih = found_first i s ∙ ap some (let e : i ≡ i + 0 = omega arith in e)

none_from : (i : ℕ) (s : List ℕ) → length s ≤ span is_printable s → unprintable i s ≡ []
unfolding unprintable span
none_from i [] h = refl
none_from i (b ∷ s) h = go (is_printable b) h (none_from (i + 1) s)
  where
    go : (t : Bool) → suc (length s) ≤ cond t (suc (span is_printable s)) 0 → (length s ≤ span is_printable s → unprintable (i + 1) s ≡ [])
        → due_at (not t) i ++ unprintable (i + 1) s ≡ []
    go true k ih = ih (omega arith)
    go false k ih = absurd (omega arith)

pub first_unprintable : (s : List ℕ) → span is_printable s < length s → least (refusal3 s) ≡ some (span is_printable s)
unfolding refusal3
first_unprintable s h = first_from 0 s h ∙ ap some (let e : 0 + span is_printable s ≡ span is_printable s = omega arith in e)

pub no_unprintable : (s : List ℕ) → length s ≤ span is_printable s → refusal3 s ≡ []
unfolding refusal3
no_unprintable s h = none_from 0 s h

-- ---- printable bytes are bytes
all_bytes : (i : ℕ) (s : List ℕ) → unprintable i s ≡ [] → Each Byte s
unfolding unprintable
all_bytes i [] e = tt
all_bytes i (b ∷ s) e = go (is_printable b) refl e (all_bytes (i + 1) s)
  where
    go : (t : Bool) → is_printable b ≡ t → due_at (not t) i ++ unprintable (i + 1) s ≡ [] → (unprintable (i + 1) s ≡ [] → Each Byte s) → Byte b × Each Byte s
    go true f g ih = (let h = leb-true b 126 (and_right (leb 32 b) (leb b 126) f) in omega arith, ih g)
    go false f g ih = absurd (let z : ◌≡◌ {A = ℕ} 0 1 = cc in omega arith)

pub bytes : (s : List ℕ) → refusal3 s ≡ [] → Each Byte s
unfolding refusal3
bytes s e = all_bytes 0 s e
