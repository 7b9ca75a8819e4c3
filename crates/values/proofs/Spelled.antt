-- Keys as they are spelled: a text that spells one is as long as its spelling, and a text that spells none gives no key.
use mathlib.Core.Path.{◌≡◌, refl, sym, ap, subst, ◌∙◌}
use mathlib.Core.Bool.{Bool, true, false, cond, true≢false}
use mathlib.Core.Option.{Option, none, some}
use mathlib.Core.List.{List, [], ◌∷◌}
use Prim.Native.Nat.{ℕ, ◌+◌, ◌<◌}
use native.Mathlib.Omega.{arith}
use borrow.Author.Tests.{eqb-false}
use lib.Dec.{eqb}
use lib.ListN.{length, length-append}
use Rattle.basics.specs.Each.{Each}
use Rattle.basics.specs.Lists.{folded_length}
use Rattle.scope.specs.declared.grammar.Key.{Key}
use Rattle.scope.specs.declared.grammar.Key.TheVariants.{NoKey}
use Rattle.scope.specs.Bytes.{colon, same_folded}
use Rattle.scope.specs.Keys.{spell, keys, key_among, key_of, written, key_code}
use Rattle.scope.specs.Lists.{given}
use Rattle.words.specs.Words.{key_found}

among : (P : Key → Type 0) (ks : List Key) (t : List ℕ) (k : Key) → Each P ks → key_among ks t ≡ some k → P k × (same_folded (spell k) t ≡ true)
unfolding key_among
among P [] t k w e = absurd (let z : ◌≡◌ {A = ℕ} 0 1 = cc in omega arith)
among P (x ∷ ks) t k w e = go (same_folded (spell x) t) refl e (among P ks t k w.1)
  where
    go : (y : Bool) → same_folded (spell x) t ≡ y → ◌≡◌ {A = Option Key} (cond y (some x) (key_among ks t)) (some k)
        → (key_among ks t ≡ some k → P k × (same_folded (spell k) t ≡ true)) → P k × (same_folded (spell k) t ≡ true)
    go true f g ih = let same : x ≡ k = cc in (subst P same w.0, subst (λ z. same_folded (spell z) t ≡ true) same f)
    go false f g ih = ih g

written_long : (k : Key) → 0 < length (spell k) → length (written k) ≡ length (spell k) + 1
unfolding written
written_long k h = go (spell k) refl h
  where
    go : (l : List ℕ) → spell k ≡ l → 0 < length (spell k) → length (written k) ≡ length (spell k) + 1
    go [] e n = absurd (let m = ap length e in omega arith)
    go (b ∷ l) e n = rw e (length-append (b ∷ l) (colon ∷ []))

-- a key that is spelled has a number of its own, and some byte
abbrev Proper : Key → Type 0
Proper k = (eqb (key_code k) 0 ≡ false) × (eqb (length (spell k)) 0 ≡ false)

each_proper : Each Proper keys
unfolding keys spell
each_proper = (
  (refl, refl),
  (
    (refl, refl),
    (
      (refl, refl),
      (
        (refl, refl),
        (
          (refl, refl),
          (
            (refl, refl),
            (
              (refl, refl),
              (
                (refl, refl),
                (
                  (refl, refl),
                  (
                    (refl, refl),
                    (
                      (refl, refl),
                      (
                        (refl, refl),
                        ((refl, refl), ((refl, refl), ((refl, refl), ((refl, refl), ((refl, refl), tt))))),
                      ),
                    ),
                  ),
                ),
              ),
            ),
          ),
        ),
      ),
    ),
  ),
)

pub record Spelled (t : List ℕ) (k : Key) : Type 0 where
  pub is : key_of t ≡ some k
  pub long : length (written k) ≡ length t + 1
  pub some_byte : 0 < length t

pub no_key : (t : List ℕ) → key_found t ≡ NoKey → key_of t ≡ none
unfolding key_of
no_key t e = go (key_among keys t) refl e
  where
    go : (x : Option Key) → key_among keys t ≡ x → given x (λ k. k) NoKey ≡ NoKey → key_among keys t ≡ none
    go none w g = w
    go (some y) w g =
        absurd
        (let h = (among Proper keys t y each_proper w).0.0 in
        let z : true ≡ false = ap (λ k. eqb (key_code k) 0) (sym g) ∙ h in true≢false z)

pub a_key : (t : List ℕ) (k : Key) → k ≡ key_found t → (k ≡ NoKey → ⊥) → Spelled t k
unfolding key_of
a_key t k f e = go (key_among keys t) refl f
  where
    go : (x : Option Key) → key_among keys t ≡ x → k ≡ given x (λ k. k) NoKey → Spelled t k
    go none w g = absurd (e g)
    go (some y) w g =
        let told = among Proper keys t y each_proper w in
        let same = folded_length (spell y) t told.1 in
        let n : 0 < length (spell y) = positive (length (spell y)) (eqb-false (length (spell y)) 0 told.0.1) in
        rw g (record { is = w; long = written_long y n ∙ omega arith; some_byte = omega arith })
      where
        positive : (n : ℕ) → (n ≡ 0 → ⊥) → 0 < n
        positive n h = omega arith
