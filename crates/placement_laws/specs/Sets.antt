-- Sets of numbers as rising lists: those with the same members are the same, and of two as long the one that has the first number in which they differ is less.
use Rattle.std.specs.Prelude.{◌≡◌, refl, ◌⊎◌, true, List, [], ◌∷◌, ℕ, ◌≤◌, ◌<◌, length}
use Rattle.std.proofs.Common.{sym, ap₂, ◌∙◌, subst, inl, inr, ⊎_elim, arith}
use Rattle.scope.specs.Placements.{less}
use Rattle.basics.specs.Each.{In}
use Rattle.basics.specs.Tests.{same?, below?}
use Rattle.placement_laws.specs.Terms.{Rising}
use Rattle.placement_laws.specs.Order.{less_here, less_there}

-- none is below the first
pub first_least : (x : ℕ) (l : List ℕ) → Rising (x ∷ l) → (y : ℕ) → In y (x ∷ l) → x ≤ y
first_least x l h y (inl e) = omega (arith, e)
first_least x l h y (inr k) = omega (arith, h.0 y k)

-- behind the first
rest_in : (x : ℕ) (l m : List ℕ) → Rising (x ∷ l) → ((y : ℕ) → In y (x ∷ l) → In y (x ∷ m)) → (y : ℕ) → In y l → In y m
rest_in x l m h t y k = ⊎_elim (λ (e : y ≡ x). absurd (omega (arith, e, h.0 y k))) (λ q. q) (t y (inr k))

pub same_members : (l m : List ℕ) → Rising l → Rising m → ((y : ℕ) → In y l → In y m) → ((y : ℕ) → In y m → In y l) → l ≡ m
same_members [] [] h k t u = refl
same_members [] (x ∷ m) h k t u = absurd (u x (inl refl))
same_members (x ∷ l) [] h k t u = absurd (t x (inl refl))
same_members (x ∷ l) (z ∷ m) h k t u = go (omega (arith, first_least x l h z (u z (inl refl)), first_least z m k x (t x (inl refl)))) (λ q r. same_members l m h.1 k.1 q r)
  where
    go : x ≡ z → (((y : ℕ) → In y l → In y m) → ((y : ℕ) → In y m → In y l) → l ≡ m) → ◌≡◌ {A = List ℕ} (x ∷ l) (z ∷ m)
    go e ih =
        let t' : (y : ℕ) → In y (x ∷ l) → In y (x ∷ m) = subst (λ a. (y : ℕ) → In y (x ∷ l) → In y (a ∷ m)) (sym e) t in
        let u' : (y : ℕ) → In y (x ∷ m) → In y (x ∷ l) = subst (λ a. (y : ℕ) → In y (a ∷ m) → In y (x ∷ l)) (sym e) u in
        let k' : Rising (x ∷ m) = subst (λ a. Rising (a ∷ m)) (sym e) k in
        ap₂ ◌∷◌ e (ih (rest_in x l m h t') (rest_in x m l k' u'))

pub earlier_less : (l m : List ℕ) → Rising l → Rising m → length l ≡ length m → (i : ℕ) → In i l → (In i m → ⊥) → ((j : ℕ) → j < i → In j l → In j m) → ((j : ℕ) → j < i → In j m → In j l)
    → less l m ≡ true
earlier_less [] m h k n i a b t u = absurd a
earlier_less (x ∷ l) [] h k n i a b t u = absurd (omega (arith, n))
earlier_less (x ∷ l) (z ∷ m) h k n i a b t u =
    ⊎_elim (λ q. less_here x z l m q)
    (λ q. ⊎_elim
    (λ (e : x ≡ z). same e (earlier_less l m h.1 k.1 (omega (arith, n)) i))
    (λ d. absurd (omega (arith, q, d, first_least x l h i a, first_least x l h z (u z (omega (arith, q, d, first_least x l h i a)) (inl refl)))))
    (same? x z))
    (below? x z)
  where
    same : x ≡ z → (In i l → (In i m → ⊥) → ((j : ℕ) → j < i → In j l → In j m) → ((j : ℕ) → j < i → In j m → In j l) → less l m ≡ true) → less (x ∷ l) (z ∷ m) ≡ true
    same e ih = less_there x z l m e (ih inside (λ q. b (inr q)) (λ j q r. down j q r) (λ j q r. up j q r))
      where
        inside : In i l
        inside = ⊎_elim (λ (q : i ≡ x). absurd (b (inl (q ∙ e)))) (λ q. q) a

        down : (j : ℕ) → j < i → In j l → In j m
        down j q r = ⊎_elim (λ (w : j ≡ z). absurd (omega (arith, w, e, h.0 j r))) (λ w. w) (t j q (inr r))

        up : (j : ℕ) → j < i → In j m → In j l
        up j q r = ⊎_elim (λ (w : j ≡ x). absurd (omega (arith, w, e, k.0 j r))) (λ w. w) (u j q (inr r))
