-- "ordered as number lists": the order of placements. Of two lists of one length the lesser comes before, at the first place where they differ.
use Rattle.std.specs.Prelude.{◌≡◌, refl, ◌⊎◌, true, ◌&&◌, List, [], ◌∷◌, ◌++◌, ℕ, zero, suc, ◌<◌, eqb, ltb, length}
use Rattle.std.proofs.Common.{sym, ap, inl, inr, ⊎_elim, arith, eqb-true, eq-eqb, ltb-true, lt-ltb}
use Rattle.std.proofs.Math.Option.{Option, none, some}
use Rattle.std.proofs.lemmas.Bool.{false≢true}
use Rattle.scope.specs.Placements.{less}
use Rattle.placement_laws.specs.Standing.{place, Same, Before}
use Rattle.placement_laws.specs.Terms.{Least}
use Rattle.basics.specs.Tests.{both_of, both, one_of, or_first, or_second}

pub less_cases : (x y : ℕ) (p q : List ℕ) → less (x ∷ p) (y ∷ q) ≡ true → (x < y) ⊎ ((x ≡ y) × (less p q ≡ true))
unfolding less
less_cases x y p q e =
    ⊎_elim (λ h. inl (ltb-true x y h)) (λ h. let z = both_of (eqb x y) (less p q) h in inr (eqb-true x y z.0, z.1)) (one_of (ltb x y) (eqb x y && less p q) e)

pub less_here : (x y : ℕ) (p q : List ℕ) → x < y → less (x ∷ p) (y ∷ q) ≡ true
unfolding less
less_here x y p q h = or_first (ltb x y) (eqb x y && less p q) (lt-ltb x y h)

pub less_there : (x y : ℕ) (p q : List ℕ) → x ≡ y → less p q ≡ true → less (x ∷ p) (y ∷ q) ≡ true
unfolding less
less_there x y p q e h = or_second (ltb x y) (eqb x y && less p q) (both (eqb x y) (less p q) (eq-eqb x y e) h)

pub less_asym : (p q : List ℕ) → less p q ≡ true → less q p ≡ true → ⊥
unfolding less
less_asym [] [] h k = false≢true h
less_asym [] (y ∷ q) h k = false≢true k
less_asym (x ∷ p) [] h k = false≢true h
less_asym (x ∷ p) (y ∷ q) h k = ⊎_elim
    (λ a. ⊎_elim (λ b. omega arith) (λ b. let e = b.0 in omega arith) (less_cases y x q p k))
    (λ a. ⊎_elim (λ b. let e = a.0 in omega arith) (λ b. less_asym p q a.1 b.1) (less_cases y x q p k))
    (less_cases x y p q h)

pub less_self : (p : List ℕ) → less p p ≡ true → ⊥
less_self p h = less_asym p p h h

-- lists of one length, whatever stands behind them
pub less_append : (p q a b : List ℕ) → length p ≡ length q → less p q ≡ true → less (p ++ a) (q ++ b) ≡ true
unfolding less
less_append [] [] a b e h = absurd (false≢true h)
less_append [] (y ∷ q) a b e h = absurd (omega arith)
less_append (x ∷ p) [] a b e h = absurd (omega arith)
less_append (x ∷ p) (y ∷ q) a b e h = ⊎_elim
    (λ k. less_here x y (p ++ a) (q ++ b) k)
    (λ k. less_there x y (p ++ a) (q ++ b) k.0 (less_append p q a b (omega arith) k.1))
    (less_cases x y p q h)

-- ---- the same by places
later : (x y : ℕ) (p q : List ℕ) → x ≡ y → Before (length p) (place p) (place q) → Before (suc (length p)) (place (x ∷ p)) (place (y ∷ q))
later x y p q e b = record { d = suc b.d; inside = omega (arith, b.inside); same = same; less = b.less }
  where
    same : (s : ℕ) → s < suc b.d → place (x ∷ p) s ≡ place (y ∷ q) s
    same zero l = e
    same (suc s) l = b.same s (omega arith)

pub less_before : (p q : List ℕ) → length p ≡ length q → less p q ≡ true → Before (length p) (place p) (place q)
unfolding less
less_before [] [] e h = absurd (false≢true h)
less_before [] (y ∷ q) e h = absurd (omega arith)
less_before (x ∷ p) [] e h = absurd (omega arith)
less_before (x ∷ p) (y ∷ q) e h = ⊎_elim
    (λ k. record { d = 0; inside = omega arith; same = λ s l. absurd (omega arith); less = k })
    (λ k. later x y p q k.0 (less_before p q (omega arith) k.1))
    (less_cases x y p q h)

pub before_less : (d : ℕ) (p q : List ℕ) → d < length p → d < length q → Same d (place p) (place q) → place p d < place q d → less p q ≡ true
before_less d [] q l m s h = absurd (omega arith)
before_less d (x ∷ p) [] l m s h = absurd (omega arith)
before_less zero (x ∷ p) (y ∷ q) l m s h = less_here x y p q h
before_less (suc d) (x ∷ p) (y ∷ q) l m s h =
    less_there x y p q (s 0 (omega arith)) (before_less d p q (omega arith) (omega arith) (λ t g. s (suc t) (omega arith)) h)

-- there is only one least
pub least_unique : (P : List ℕ → Type 0) (a b : Option (List ℕ)) → Least P a → Least P b → a ≡ b
least_unique P none none h k = refl
least_unique P none (some q) h k = absurd (h q k.0)
least_unique P (some p) none h k = absurd (k p h.0)
least_unique P (some p) (some q) h k =
    ap some (⊎_elim (λ e. e) (λ l. ⊎_elim (λ e. sym e) (λ m. absurd (less_asym p q l m)) (k.1 p h.0)) (h.1 q k.0))
