-- The placements stand in ascending order where the lists of positions do.
use Rattle.std.specs.Prelude.{◌≡◌, refl, true, List, [], ◌∷◌, map, ℕ, zero, suc, ◌<◌, ◌-◌, length, get_or, replicate}
use Rattle.std.proofs.Common.{sym, ap, ◌∙◌, arith}
use Rattle.scope.specs.Limits.{copy_limit}
use Rattle.scope.specs.Lists.{keep, flat, padded}
use Rattle.scope.specs.Positions.{Floating}
use Rattle.scope.specs.Placements.{in_order, less, choices, placements}
use Rattle.placement_laws.specs.Terms.{Rising, AllRising, Ascending}
use Rattle.basics.specs.Each.{In}
use Rattle.basics.specs.Members.{in_at, ordered_append, ordered_keep, ordered_map, in_keep, in_map, in_flat}
use Rattle.placement_laws.specs.Order.{less_here, less_there, less_self, less_append}
use Rattle.placement_laws.specs.Members.{choice_fits}

abbrev pub Less : List ℕ → List ℕ → Type 0
Less p q = less p q ≡ true

-- each position of q, with each list of l behind it
spread : (q : List ℕ) (l : List (List ℕ)) → Rising q → Ascending l → Ascending (flat (λ x. map (λ p. x ∷ p) l) q)
unfolding flat
spread [] l r a = tt
spread (x ∷ q) l r a =
    ordered_append Less (map (λ p. x ∷ p) l) (flat (λ y. map (λ p. y ∷ p) l) q)
    (ordered_map Less Less (λ p. x ∷ p) l (λ p s h k e. less_there x x p s refl e) a) (spread q l r.1 a) later
  where
    later : (p s : List ℕ) → In p (map (λ p. x ∷ p) l) → In s (flat (λ y. map (λ p. y ∷ p) l) q) → less p s ≡ true
    later p s h k =
        let a = in_map (λ p. x ∷ p) p l h in
        let b = in_flat (λ y. map (λ p. y ∷ p) l) s q k in
        let c = in_map (λ p. b.0 ∷ p) s l b.2 in
        rw (a.2, c.2) (less_here x b.0 a.0 c.0 (r.0 b.0 b.1))

choices_ascending : (qs : List (List ℕ)) → AllRising qs → Ascending (choices qs)
unfolding choices
choices_ascending [] r = ((λ q h. absurd h), tt)
choices_ascending (q ∷ qs) r = spread q (choices qs) r.0 (choices_ascending qs r.1)

pub placements_ascending : (f : Floating) → AllRising f.lists → Ascending (placements f)
unfolding placements
placements_ascending f r =
    ordered_map Less Less (padded 0 copy_limit) (keep (in_order f) (choices f.lists)) padded_less
    (ordered_keep Less (in_order f) (choices f.lists) (choices_ascending f.lists r))
  where
    long : (p : List ℕ) → In p (keep (in_order f) (choices f.lists)) → length p ≡ length f.lists
    long p h = (choice_fits f.lists p (in_keep (in_order f) p (choices f.lists) h).0).0

    padded_less : (p q : List ℕ) → In p (keep (in_order f) (choices f.lists)) → In q (keep (in_order f) (choices f.lists)) → less p q ≡ true
        → less (padded 0 copy_limit p) (padded 0 copy_limit q) ≡ true
    padded_less p q h k e = less_append p q (replicate (copy_limit - length p) 0) (replicate (copy_limit - length q) 0) (long p h ∙ sym (long q k)) e

-- ---- each stands there once
pub once : (l : List (List ℕ)) → Ascending l → (i j : ℕ) → i < length l → j < length l → get_or l i [] ≡ get_or l j [] → i ≡ j
once [] a i j h k e = absurd (omega arith)
once (p ∷ l) a zero zero h k e = refl
once (p ∷ l) a zero (suc j) h k e = absurd (less_self p (rw (sym e) at (a.0 (get_or l j []) (in_at l j [] (omega arith)))))
once (p ∷ l) a (suc i) zero h k e = absurd (less_self p (rw e at (a.0 (get_or l i []) (in_at l i [] (omega arith)))))
once (p ∷ l) a (suc i) (suc j) h k e = ap suc (once l a.1 i j (omega arith) (omega arith) e)
