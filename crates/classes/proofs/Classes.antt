-- Laws of the classes of bytes. Assumes nothing.
use Prim.Native.Nat.{ℕ, ◌≤◌}
use native.Mathlib.Omega.{arith}
use mathlib.Core.Path.{◌≡◌, refl, sym, ◌∙◌}
use mathlib.Core.Bool.{Bool, true, false, not, ◌&&◌, ◌||◌, and-true}
use mathlib.Core.List.{[], ◌∷◌}
use borrow.Author.Tests.{ne_eqb, le-leb, leb-true, not-true}
use lib.Dec.{eqb, leb}
use Rattle.basics.specs.Each.{NoneOf}
use Rattle.basics.specs.Tests.{both_of}
use Rattle.scope.specs.Bytes.{is_printable, is_upper, is_lower, is_letter, is_opening, is_shutting}
use Rattle.scope.specs.Content.{is_plain}

-- a byte that has no meaning of its own is plain where it is printable
pub plain_else : (b : ℕ) → NoneOf (58 ∷ 35 ∷ 124 ∷ 125 ∷ 123 ∷ 93 ∷ 91 ∷ []) b → is_printable b ≡ is_plain b
plain_else b (((((((_, p), q), r), s), t), u), v) =
    simp (ne_eqb _ _ p, ne_eqb _ _ q, ne_eqb _ _ r, ne_eqb _ _ s, ne_eqb _ _ t, ne_eqb _ _ u, ne_eqb _ _ v, and-true)

-- a letter is plain
between : (a z b : ℕ) → leb a b && leb b z ≡ true → (a ≤ b) × (b ≤ z)
between a z b e = let h = both_of (leb a b) (leb b z) e in (leb-true a b h.0, leb-true b z h.1)

letter_within : (b : ℕ) → 65 ≤ b → b ≤ 122 → (b ≡ 91 → ⊥) → (b ≡ 93 → ⊥) → is_plain b ≡ true
letter_within b low high p q =
    sym (plain_else b (((((((tt, p), q), (λ e. omega arith)), (λ e. omega arith)), (λ e. omega arith)), (λ e. omega arith)), (λ e. omega arith)))
    ∙ rw (le-leb 32 b (omega arith), le-leb b 126 (omega arith))

pub letter_plain : (b : ℕ) → is_letter b ≡ true → is_plain b ≡ true
letter_plain b e = go (is_upper b) refl e
  where
    go : (x : Bool) → is_upper b ≡ x → x || is_lower b ≡ true → is_plain b ≡ true
    go true u w = let h = between 65 90 b u in letter_within b h.0 (omega (arith, h.1)) (λ f. omega (arith, h.1)) (λ f. omega (arith, h.1))
    go false u w = let h = between 97 122 b w in letter_within b (omega (arith, h.0)) h.1 (λ f. omega (arith, h.0)) (λ f. omega (arith, h.0))

-- a plain byte opens and closes nothing
pub plain_quiet : (b : ℕ) → is_plain b ≡ true → (is_opening b ≡ false) × (is_shutting b ≡ false)
plain_quiet b e =
    let w = (both_of (is_printable b && not (is_opening b) && not (is_shutting b)) (not (eqb b 124)) (both_of _ (not (eqb b 35)) (both_of _ (not (eqb b 58)) e).0).0).0 in
    let v = both_of (is_printable b && not (is_opening b)) (not (is_shutting b)) w in
    (not-true (is_opening b) (both_of (is_printable b) (not (is_opening b)) v.0).1, not-true (is_shutting b) v.1)

pub plain_printable : (b : ℕ) → is_plain b ≡ true → is_printable b ≡ true
plain_printable b e = go (is_printable b) e
  where
    go : (x : Bool) → x && not (is_opening b) && not (is_shutting b) && not (eqb b 124) && not (eqb b 35) && not (eqb b 58) ≡ true → x ≡ true
    go true f = refl
    go false f = f
