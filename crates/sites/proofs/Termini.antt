-- The place that the bytes at a place make: a terminus, where N or C stands before a dash, and else a letter. Assumes nothing.
use mathlib.Core.Path.{◌≡◌, refl, sym, ap, ◌∙◌}
use mathlib.Core.Bool.{Bool, true, false, cond}
use mathlib.Core.Option.{Option, none, some}
use mathlib.Core.List.{List}
use Prim.Native.Nat.{ℕ, ◌+◌, ◌≤◌}
use native.Mathlib.Omega.{arith}
use borrow.Author.Tests.{eq-eqb, ne_eqb, eqb-true}
use lib.Dec.{eqb}
use lib.ListN.{length, get_or, get_or-eq_default}
use Rattle.scope.specs.Bytes.{upper, dash}
use Rattle.scope.specs.Lists.{given}
use Rattle.scope.specs.Places.{terminus_of}
use Rattle.basics.specs.Choice.{by_test}
use Rattle.std.specs.Prelude.{Some, None}
use Rattle.std.specs.Prelude.{Option as Perhaps}
use Rattle.std.proofs.lemmas.Option.{none-some, same_Some}
use Rattle.texts.specs.Texts.{coded}
use Rattle.sites.specs.Says.{terminus_or, terminus_at, word_found, place_of, place_end, SiteIs}

-- ---- by the letter
-- by the tests for N and C
abbrev picked : Bool → Bool → Option ℕ
picked x y = cond x (some 1) (cond y (some 2) none)

letter_none : (s : ℕ) → terminus_or s ≡ 0 → terminus_of s ≡ none
letter_none s e = go (eqb s 78) (eqb s 67) e
  where
    go : (x y : Bool) → given (picked x y) (λ t. t) 0 ≡ 0 → picked x y ≡ none
    go true y e = absurd (omega arith)
    go false true e = absurd (omega arith)
    go false false e = refl

letter_word : (s : ℕ) → (terminus_or s ≡ 0 → ⊥) → (terminus_of s ≡ some (terminus_or s)) × (terminus_of (terminus_or s) ≡ none)
letter_word s n = go (eqb s 78) (eqb s 67) n
  where
    go : (x y : Bool) → (given (picked x y) (λ t. t) 0 ≡ 0 → ⊥) → (picked x y ≡ some (given (picked x y) (λ t. t) 0)) × (terminus_of (given (picked x y) (λ t. t) 0) ≡ none)
    go true y n = (refl, refl)
    go false true n = (refl, refl)
    go false false n = absurd (n refl)

-- one is found, or none
letter_none_found : (s : ℕ) → coded (terminus_of s) ≡ None → terminus_or s ≡ 0
letter_none_found s e = go (eqb s 78) (eqb s 67) e
  where
    go : (x y : Bool) → coded (picked x y) ≡ None → given (picked x y) (λ t. t) 0 ≡ 0
    go true y e = absurd (none-some 1 (sym e))
    go false true e = absurd (none-some 2 (sym e))
    go false false e = refl

letter_found : (s t : ℕ) → coded (terminus_of s) ≡ Some t → (t ≡ terminus_or s) × (terminus_or s ≡ 0 → ⊥)
letter_found s t e = go (eqb s 78) (eqb s 67) e
  where
    go : (x y : Bool) → coded (picked x y) ≡ Some t → (t ≡ given (picked x y) (λ t. t) 0) × (given (picked x y) (λ t. t) 0 ≡ 0 → ⊥)
    go true y e = (sym (same_Some 1 t e), λ z. omega arith)
    go false true e = (sym (same_Some 2 t e), λ z. omega arith)
    go false false e = absurd (none-some t e)

-- ---- by the byte behind it
module _ (line : List ℕ) (at : ℕ) where
  pub line_ends_lem : length line ≤ at + 1 → None ≡ word_found line at
  unfolding word_found
  line_ends_lem h = rw (get_or-eq_default line 0 {n = at + 1} h)

  pub no_dash : (get_or line (at + 1) 0 ≡ dash → ⊥) → None ≡ word_found line at
  unfolding word_found
  no_dash n = rw (ne_eqb (get_or line (at + 1) 0) dash n)

  pub dashed : (t : Perhaps ℕ) (u : ℕ) → get_or line (at + 1) 0 ≡ dash → u ≡ upper (get_or line at 0) → t ≡ coded (terminus_of u) → t ≡ word_found line at
  unfolding word_found
  dashed t u e f g = g ∙ ap (λ s. coded (terminus_of s)) f ∙ rw (eq-eqb (get_or line (at + 1) 0) dash e)

  pub found_none : word_found line at ≡ None → terminus_at line at ≡ 0
  unfolding word_found terminus_at
  found_none e =
      by_test (eqb (get_or line (at + 1) 0) dash) (λ d. rw d (letter_none_found (upper (get_or line at 0)) (rw d at e))) (λ d. rw d)

  pub found_some : (t : ℕ) → word_found line at ≡ Some t → (t ≡ terminus_at line at) × (terminus_at line at ≡ 0 → ⊥)
  unfolding word_found terminus_at
  found_some t e =
      by_test (eqb (get_or line (at + 1) 0) dash) (λ d. rw d (letter_found (upper (get_or line at 0)) t (rw d at e)))
      (λ d. absurd (none-some t (rw d at e)))

  -- no word begins, though a dash follows: the letter has none
  pub or_none : terminus_at line at ≡ 0 → eqb (get_or line (at + 1) 0) dash ≡ true → terminus_of (upper (get_or line at 0)) ≡ none
  unfolding terminus_at
  or_none z d = letter_none (upper (get_or line at 0)) (rw d at z)

  -- one begins: a dash follows, the letter has it, and it is no letter that has one
  pub word_of : (terminus_at line at ≡ 0 → ⊥)
      → (get_or line (at + 1) 0 ≡ dash) × (terminus_of (upper (get_or line at 0)) ≡ some (terminus_at line at)) × (terminus_of (terminus_at line at) ≡ none)
  unfolding terminus_at
  word_of n =
      by_test (eqb (get_or line (at + 1) 0) dash)
      (λ d. let w = letter_word (upper (get_or line at 0)) (rw d at n) in rw d (eqb-true (get_or line (at + 1) 0) dash d, w.0, w.1))
      (λ d. absurd (n (rw d)))

  -- ---- as it is told to whoever knows that a place stands there
  pub site_past : (x y : ℕ) → length line ≤ at → SiteIs line at x y
  unfolding place_end
  site_past x y h = λ k. absurd (by_test (eqb (terminus_at line at) 0) (λ z. let m = rw z at k in omega arith) (λ z. let m = rw z at k in omega arith))

  pub site_letter : (u : ℕ) → word_found line at ≡ None → u ≡ upper (get_or line at 0) → SiteIs line at u (at + 1)
  unfolding place_of place_end
  site_letter u z f = λ k. rw (eq-eqb (terminus_at line at) 0 (found_none z)) (f, refl)

  pub site_word : (t : ℕ) → word_found line at ≡ Some t → SiteIs line at t (at + 6)
  unfolding place_of place_end
  site_word t e =
      let p = found_some t e in
      λ k. rw (ne_eqb (terminus_at line at) 0 p.1) (p.0, refl)
