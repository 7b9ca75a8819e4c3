-- A text ends, or is stuck, where it starts or later, and within the line. Assumes nothing.
use Prim.Native.Nat.{ℕ, ◌+◌, ◌≤◌, ◌<◌}
use mathlib.Core.Path.{◌≡◌, ap}
use mathlib.Core.Bool.{Bool}
use mathlib.Core.Option.{Option, none, some}
use mathlib.Core.List.{List, [], ◌∷◌}
use native.Mathlib.Omega.{arith}
use lib.ListN.{length, drop, length-drop}
use Rattle.scope.specs.Lists.{given}
use Rattle.scope.specs.Content.{text_step}
use Rattle.texts.specs.Texts.{TextScanned, ends, stuck, stopped, scan_text}

abbrev pub place_of : TextScanned → ℕ
place_of (ends i) = i
place_of (stuck i) = i

abbrev pub In : ℕ → ℕ → ℕ → Type 0
In a i n = (a ≤ i) × (i ≤ n)

in_stopped : (cs : List ℕ) (i n : ℕ) → i ≤ n → In i (place_of (stopped cs i)) n
in_stopped [] i n h = omega arith
in_stopped (c ∷ cs) i n h = omega arith

in_step : (o : Option (List ℕ)) (go : List ℕ → TextScanned) (cs : List ℕ) (i n : ℕ) → i < n → ((cs' : List ℕ) → In (i + 1) (place_of (go cs')) n)
    → In i (place_of (given o go (stopped cs i))) n
in_step none go cs i n h ih = in_stopped cs i n (omega arith)
in_step (some cs') go cs i n h ih = omega (arith, ih cs')

pub in_scan : (hashes : Bool) (cs l : List ℕ) (i n : ℕ) → i + length l ≡ n → In i (place_of (scan_text hashes cs l i)) n
unfolding scan_text
in_scan hashes cs [] i n e = in_stopped cs i n (omega arith)
in_scan hashes cs (b ∷ l) i n e =
    in_step (text_step hashes cs b) (λ cs'. scan_text hashes cs' l (i + 1)) cs i n (omega arith)
    (λ cs'. in_scan hashes cs' l (i + 1) n (omega arith))

pub text_in_lem : (hashes : Bool) (s : List ℕ) (at : ℕ) {r : TextScanned} → at ≤ length s → r ≡ scan_text hashes [] (drop at s) at
    → (at ≤ place_of r) × (place_of r ≤ length s)
text_in_lem hashes s at h e = omega (arith, in_scan hashes [] (drop at s) at (length s) (omega (arith, length-drop at s)), ap place_of e)
