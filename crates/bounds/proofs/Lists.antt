-- A loop that copies one area into another, from the front on. Assumes nothing.
use mathlib.Core.Path.{◌≡◌, refl, subst, ◌∙◌}
use mathlib.Core.List.{List, ◌++◌}
use Prim.Native.Nat.{ℕ, ◌+◌, ◌≤◌, ◌<◌}
use native.Mathlib.Omega.{arith}
use native.Mathlib.Nat.{zero-add}
use native.Mathlib.Numerals.{add-one}
use lib.ListN.{length, get_or, set, take, drop, length-set}
use lib.Seq.{paste-suc}

-- i elements are copied
pub record Copied {A : Type 0} (from old : List A) (n i : ℕ) (new : List A) : Type 0 where
  pub inside : i ≤ n
  pub is : new ≡ take i from ++ drop i old
  pub long : length new ≡ length old

module _ {A : Type 0} {from old : List A} {n : ℕ} where
  pub copied_start : Copied from old n 0 old
  copied_start = record { inside = omega arith; is = refl; long = refl }

  pub copied_more : (z : A) {i : ℕ} {new : List A} → Copied from old n i new → i < n → n ≤ length from → n ≤ length old
      → Copied from old n (i + 1) (set new i (get_or from i z))
  copied_more z {i} {new} h l lf lo =
      let low : 0 + i < length old = omega arith in
      let here : i < length from = omega arith in
      let e : set new i (get_or from i z) ≡ take (i + 1) from ++ drop (i + 1) old = rw (h.is, add-one i) (simp zero-add at (paste-suc old 0 from i z low here)) in
      record { inside = omega arith; is = e; long = length-set new i (get_or from i z) ∙ h.long }

  pub copied_all : {i : ℕ} {new : List A} → Copied from old n i new → n ≤ i → new ≡ take n from ++ drop n old
  copied_all {i} {new} h l = let e : i ≡ n = omega (arith, h.inside) in subst (λ k. new ≡ take k from ++ drop k old) e h.is
