-- Two neighbours that change places. Of placements that are the least, no further copy stands below the copy before it: with the two in each other's place there
-- would be a lesser one.
use Rattle.std.specs.Prelude.{◌≡◌, refl, ◌⊎◌, Bool, true, ℕ, ◌+◌, ◌<◌}
use Rattle.std.proofs.Common.{sym, ap, ◌∙◌, subst, inl, inr, ⊎_elim, arith}
use Rattle.basics.specs.Tests.{same?, below?}
use Rattle.placement_laws.specs.Standing.{Full, Same, Upto}

-- v is w, with s and the one behind it in each other's place
pub record Swapped (s : ℕ) (w v : ℕ → ℕ) : Type 0 where
  pub here : v s ≡ w (s + 1)
  pub behind : v (s + 1) ≡ w s
  pub else : (t : ℕ) → (t ≡ s → ⊥) → (t ≡ s + 1 → ⊥) → v t ≡ w t

-- r is where t comes from
abbrev From : ℕ → ℕ → ℕ → Type 0
From s t r = ((t ≡ s) × (r ≡ s + 1)) ⊎ (((t ≡ s + 1) × (r ≡ s)) ⊎ ((t ≡ s → ⊥) × (t ≡ s + 1 → ⊥) × (r ≡ t)))

from : (s t : ℕ) (w v : ℕ → ℕ) → Swapped s w v → (r : ℕ) × From s t r × (v t ≡ w r)
from s t w v h = ⊎_elim
    (λ a. (s + 1, inl (a, refl), ap v a ∙ h.here))
    (λ a. ⊎_elim (λ b. (s, inr (inl (b, refl)), ap v b ∙ h.behind)) (λ b. (t, inr (inr (a, b, refl)), h.else t a b)) (same? t (s + 1)))
    (same? t s)

from_below : (s t r k : ℕ) → s + 1 < k → t < k → From s t r → r < k
from_below s t r k h l (inl (a, b)) = omega arith
from_below s t r k h l (inr (inl (a, b))) = omega arith
from_below s t r k h l (inr (inr (a, b, c))) = omega arith

from_one : (s t u r : ℕ) → From s t r → From s u r → t ≡ u
from_one s t u r (inl (a, b)) (inl (c, d)) = omega arith
from_one s t u r (inl (a, b)) (inr (inl (c, d))) = omega arith
from_one s t u r (inl (a, b)) (inr (inr (c, d, e))) = omega arith
from_one s t u r (inr (inl (a, b))) (inl (c, d)) = omega arith
from_one s t u r (inr (inl (a, b))) (inr (inl (c, d))) = omega arith
from_one s t u r (inr (inl (a, b))) (inr (inr (c, d, e))) = omega arith
from_one s t u r (inr (inr (a, b, f))) (inl (c, d)) = omega arith
from_one s t u r (inr (inr (a, b, f))) (inr (inl (c, d))) = omega arith
from_one s t u r (inr (inr (a, b, f))) (inr (inr (c, d, e))) = omega arith

module _ (ok : ℕ → ℕ → Bool) (k s : ℕ) (w v : ℕ → ℕ) (inside : s + 1 < k) (swapped : Swapped s w v) where
  pub swap_full : Full ok k w → ok s (w (s + 1)) ≡ true → ok (s + 1) (w s) ≡ true → Full ok k v
  swap_full f o p = record { fits = fits; apart = apart }
    where
      stands : (t r : ℕ) → t < k → From s t r → ok t (w r) ≡ true
      stands t r l (inl (a, b)) = rw (a, b) o
      stands t r l (inr (inl (a, b))) = rw (a, b) p
      stands t r l (inr (inr (a, b, c))) = rw c (f.fits t l)

      fits : (t : ℕ) → t < k → ok t (v t) ≡ true
      fits t l = let z = from s t w v swapped in rw z.2 (stands t z.0 l z.1)

      apart : (t u : ℕ) → t < k → u < k → v t ≡ v u → t ≡ u
      apart t u l m e =
          let y = from s t w v swapped in
          let z = from s u w v swapped in
          let q : y.0 ≡ z.0 = f.apart y.0 z.0 (from_below s t y.0 k inside l y.1) (from_below s u z.0 k inside m z.1) (sym y.2 ∙ e ∙ z.2) in
          from_one s t u z.0 (rw q at y.1) z.1

  pub swap_same : Same s w v
  swap_same t l = sym (swapped.else t (λ e. omega arith) (λ e. omega arith))

  -- what is w or comes after it is not what comes before it
  not_before : Upto k w v → w (s + 1) < w s → ⊥
  not_before (inl e) h = let z = e s (omega arith) in omega (arith, z, swapped.here)
  not_before (inr b) h = ⊎_elim
      (λ l. let z = swap_same b.d l in omega (arith, z, b.less))
      (λ l. ⊎_elim
      (λ (e : b.d ≡ s). let z : w s < v s = subst (λ x. w x < v x) e b.less in omega (arith, z, swapped.here))
      (λ n. let z = b.same s (omega arith) in omega (arith, z, swapped.here)) (same? b.d s))
      (below? b.d s)

  -- where w is no greater than v, and the two may change places if the second stands below the first, it stands above
  pub swap_least : Full ok k w → (w (s + 1) < w s → (ok s (w (s + 1)) ≡ true) × (ok (s + 1) (w s) ≡ true)) → (Full ok k v → Upto k w v) → w s < w (s + 1)
  swap_least f may least = ⊎_elim
      (λ l. l)
      (λ l. absurd (wrong (⊎_elim (λ (e : w (s + 1) ≡ w s). absurd (let z = f.apart (s + 1) s inside (omega arith) e in omega (arith, z))) (λ n. omega arith) (same? (w (s + 1)) (w s)))))
      (below? (w s) (w (s + 1)))
    where
      wrong : w (s + 1) < w s → ⊥
      wrong h = let o = may h in not_before (least (swap_full f o.0 o.1)) h
