-- Laws of `span` at a place of a list, whatever the class. Assumes nothing.
use Prim.Native.Nat.{ℕ, suc, ◌+◌, ◌≤◌, ◌<◌}
use mathlib.Core.Path.{◌≡◌, refl, sym, ap, ◌∙◌}
use mathlib.Core.Bool.{Bool, true, false, cond}
use mathlib.Core.List.{List, [], ◌∷◌}
use native.Mathlib.Numerals.{add-one}
use native.Mathlib.Omega.{arith}
use lib.Dec.{ltb}
use borrow.Author.Tests.{ltb-true, ltb-false}
use lib.ListN.{length, get_or, take, drop, drop_of_length-le, length-drop}
use mathlib.Core.Logic.{◌⊎◌, inl, inr}
use lib.Seq.{drop-cons, get_or-drop, take-length}
use Rattle.std.specs.List.{slice_range}
use Rattle.classes.specs.Runs.{span}

module _ (p : ℕ → Bool) (s : List ℕ) (i : ℕ) where
  pub span_end : length s ≤ i → span p (drop i s) ≡ 0
  unfolding span
  span_end h = rw (drop_of_length-le s h)

  module _ (h : i < length s) where
    pub span_stop : p (get_or s i 0) ≡ false → span p (drop i s) ≡ 0
    unfolding span
    span_stop e = rw (drop-cons s i 0 h, e, span)

    pub span_more : p (get_or s i 0) ≡ true → span p (drop i s) ≡ 1 + span p (drop (i + 1) s)
    unfolding span
    span_more e = rw (drop-cons s i 0 h, add-one i, e, span) (omega arith)

-- ---- a loop from the place `at` on, as long as the byte at i is of the class
-- its invariant: the bytes of the class that start at i end where those that start at `at` do
pub record RunGoesOn (p : ℕ → Bool) (s : List ℕ) (at i : ℕ) : Type 0 where
  pub same_end : i + span p (drop i s) ≡ at + span p (drop at s)

pub run_enters : {p : ℕ → Bool} {s : List ℕ} {at : ℕ} → RunGoesOn p s at at
run_enters = record { same_end = refl }

-- t is what the class says of the byte at i
module _ {p : ℕ → Bool} {s : List ℕ} {at i : ℕ} (r : RunGoesOn p s at i) where
  module _ (h : i < length s) {t : Bool} (told : t ≡ p (get_or s i 0)) where
    pub run_goes_on : t ≡ true → RunGoesOn p s at (i + 1)
    run_goes_on e = record { same_end = omega (arith, span_more p s i h (sym told ∙ e), r.same_end) }

    pub run_stops : t ≡ false → i ≡ at + span p (drop at s)
    run_stops e = omega (arith, span_stop p s i h (sym told ∙ e), r.same_end)

  pub run_ends : length s ≤ i → i ≡ at + span p (drop at s)
  run_ends h = omega (arith, span_end p s i h, r.same_end)

-- the rest of a list from a place on, and a place past its end
pub range_to_end : (s : List ℕ) (at : ℕ) → slice_range s at (length s) ≡ drop at s
range_to_end s at = ap (λ n. take n (drop at s)) (sym (length-drop at s)) ∙ take-length (drop at s)

pub past_end : {at n : ℕ} → ◌⊎◌ (n < at) (n < n) → n ≤ at
past_end (inl h) = omega arith
past_end (inr h) = absurd (omega arith)

-- ---- where a run ends
pub span_le : (p : ℕ → Bool) (l : List ℕ) → span p l ≤ length l
unfolding span
span_le p [] = omega arith
span_le p (b ∷ l) = go (p b) (span_le p l)
  where
    go : (x : Bool) → span p l ≤ length l → cond x (suc (span p l)) 0 ≤ suc (length l)
    go true h = omega arith
    go false h = omega arith

-- a run ends within the list
pub run_in : (p : ℕ → Bool) (s : List ℕ) (at : ℕ) → at ≤ length s → at + span p (drop at s) ≤ length s
run_in p s at h = omega (arith, span_le p (drop at s), length-drop at s)

stop_at : (p : ℕ → Bool) (l : List ℕ) → span p l < length l → p (get_or l (span p l) 0) ≡ false
unfolding span
stop_at p [] h = absurd (omega arith)
stop_at p (b ∷ l) h = go (p b) refl (stop_at p l) h
  where
    go : (x : Bool) → p b ≡ x → (span p l < length l → p (get_or l (span p l) 0) ≡ false) → cond x (suc (span p l)) 0 < suc (length l)
        → p (get_or (b ∷ l) (cond x (suc (span p l)) 0) 0) ≡ false
    go true e ih k = ih (omega arith)
    go false e ih k = e

-- the byte behind a run is not of the class
pub run_next : (p : ℕ → Bool) (s : List ℕ) (at i : ℕ) → i ≡ at + span p (drop at s) → i < length s → p (get_or s i 0) ≡ false
run_next p s at i e h =
    rw e
    (rw (sym (get_or-drop at s (span p (drop at s)) 0))
    (stop_at p (drop at s) (omega (arith, e, length-drop at s))))

-- and no run starts there
pub run_done : (p : ℕ → Bool) (s : List ℕ) (at i : ℕ) → i ≡ at + span p (drop at s) → span p (drop i s) ≡ 0
run_done p s at i e = go (ltb i (length s)) refl
  where
    go : (x : Bool) → ltb i (length s) ≡ x → span p (drop i s) ≡ 0
    go true q = span_stop p s i (ltb-true i (length s) q) (run_next p s at i e (ltb-true i (length s) q))
    go false q = span_end p s i (ltb-false i (length s) q)
