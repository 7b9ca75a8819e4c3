-- A loop that copies a list over one of its length, from the front on. Assumes nothing.
use mathlib.Core.Path.{◌≡◌, refl, ap₂, ◌∙◌}
use mathlib.Core.List.{List, ◌++◌, append-nil}
use Prim.Native.Nat.{ℕ, ◌+◌, ◌≤◌, ◌<◌}
use native.Mathlib.Omega.{arith}
use native.Mathlib.Nat.{zero-add}
use native.Mathlib.Numerals.{add-one}
use lib.ListN.{length, get_or, set, take, drop, length-set}
use lib.Seq.{paste-suc, take_all}
use Rattle.std.proofs.lemmas.List.{drop_all}

-- i elements are copied
pub record Copied {A : Type 0} (from old : List A) (i : ℕ) (new : List A) : Type 0 where
  pub inside : i ≤ length from
  pub is : new ≡ take i from ++ drop i old
  pub long : length new ≡ length from

module _ {A : Type 0} {from old : List A} (same : length old ≡ length from) where
  pub copied_start : Copied from old 0 old
  copied_start = record { inside = omega arith; is = refl; long = same }

  pub copied_more : (z : A) {i : ℕ} {new : List A} → Copied from old i new → i < length from → Copied from old (i + 1) (set new i (get_or from i z))
  copied_more z {i} {new} h l =
      let low : 0 + i < length old = omega (arith, same) in
      let e : set new i (get_or from i z) ≡ take (i + 1) from ++ drop (i + 1) old = rw (h.is, add-one i) (simp zero-add at (paste-suc old 0 from i z low l)) in
      record { inside = omega arith; is = e; long = length-set new i (get_or from i z) ∙ h.long }

  pub copied_all : {i : ℕ} {new : List A} → Copied from old i new → length from ≤ i → new ≡ from
  copied_all {i} {new} h l =
      h.is ∙ ap₂ (λ x y. x ++ y) (take_all i from l) (drop_all i old (omega (arith, same))) ∙ append-nil from
