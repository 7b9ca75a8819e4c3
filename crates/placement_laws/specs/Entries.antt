-- An allowed placement, entry by entry: each floater stands at a permitted position, no two at one, a further copy above the copy before it, and zeros stand
-- behind them.
use Rattle.std.specs.Prelude.{◌≡◌, refl, Bool, true, false, not, ◌||◌, List, [], ◌∷◌, ℕ, zero, suc, ◌+◌, ◌≤◌, ◌<◌, eqb, ltb, length, get_or, take, drop}
use Rattle.std.proofs.Common.{sym, ap, ◌∙◌, subst, arith, get_or-take, length-take-le, eqb-true, eq-eqb, ltb-true, lt-ltb}
use Rattle.std.proofs.lemmas.Bool.{false≢true}
use Rattle.scope.specs.Limits.{copy_limit}
use Rattle.scope.specs.Lists.{all, member}
use Rattle.scope.specs.Positions.{Floating}
use Rattle.scope.specs.Placements.{distinct, fits, ascends}
use Rattle.basics.specs.Tests.{both_of, both, implied, falsely}
use Rattle.basics.specs.Each.{In}
use Rattle.basics.specs.Members.{member_in, in_member, in_at, at_in}
use Rattle.placement_laws.specs.Standing.{place, Ascent}
use Rattle.placement_laws.specs.Terms.{Allowed, Placing}
use Rattle.placement_laws.specs.Members.{fits_cons, cons_fits, fits_none, cut, allowed_parts, parts_allowed}

-- ---- zeros
pub zeros_at : (p : List ℕ) → all (eqb 0) p ≡ true → (s : ℕ) → get_or p s 0 ≡ 0
unfolding all
zeros_at [] e s = refl
zeros_at (x ∷ p) e zero = sym (eqb-true 0 x (both_of (eqb 0 x) (all (eqb 0) p) e).0)
zeros_at (x ∷ p) e (suc s) = zeros_at p (both_of (eqb 0 x) (all (eqb 0) p) e).1 s

pub at_zeros : (p : List ℕ) → ((s : ℕ) → s < length p → get_or p s 0 ≡ 0) → all (eqb 0) p ≡ true
unfolding all
at_zeros [] h = refl
at_zeros (x ∷ p) h = both (eqb 0 x) (all (eqb 0) p) (eq-eqb 0 x (sym (h 0 (omega arith)))) (at_zeros p (λ s l. h (suc s) (omega arith)))

-- ---- where each stands, and what fits
fits_at : (qs : List (List ℕ)) (p : List ℕ) → fits qs p ≡ true → (s : ℕ) → s < length qs → member (get_or p s 0) (get_or qs s []) ≡ true
fits_at [] p e s h = absurd (omega arith)
fits_at (q ∷ qs) [] e s h = fits_none q qs e
fits_at (q ∷ qs) (x ∷ p) e zero h = (fits_cons q qs x p e).0
fits_at (q ∷ qs) (x ∷ p) e (suc s) h = fits_at qs p (fits_cons q qs x p e).1 s (omega arith)

fits_rest : (qs : List (List ℕ)) (p : List ℕ) → fits qs p ≡ true → (s : ℕ) → length qs ≤ s → get_or p s 0 ≡ 0
unfolding fits
fits_rest [] p e s h = zeros_at p e s
fits_rest (q ∷ qs) [] e s h = refl
fits_rest (q ∷ qs) (x ∷ p) e zero h = absurd (omega arith)
fits_rest (q ∷ qs) (x ∷ p) e (suc s) h = fits_rest qs p (fits_cons q qs x p e).1 s (omega arith)

at_fits : (qs : List (List ℕ)) (p : List ℕ) → length qs ≤ length p → ((s : ℕ) → s < length qs → member (get_or p s 0) (get_or qs s []) ≡ true)
    → ((s : ℕ) → length qs ≤ s → get_or p s 0 ≡ 0) → fits qs p ≡ true
unfolding fits
at_fits [] p l h r = at_zeros p (λ s m. r s (omega arith))
at_fits (q ∷ qs) [] l h r = absurd (omega arith)
at_fits (q ∷ qs) (x ∷ p) l h r =
    cons_fits q qs x p (h 0 (omega arith)) (at_fits qs p (omega arith) (λ s m. h (suc s) (omega arith)) (λ s m. r (suc s) (omega arith)))

-- ---- no two on one position
distinct_cons : (x : ℕ) (p : List ℕ) → distinct (x ∷ p) ≡ true → (In x p → ⊥) × (distinct p ≡ true)
unfolding distinct
distinct_cons x p e =
    let z = both_of (not (member x p)) (distinct p) e in ((λ h. false≢true (sym (ap not (in_member x p h)) ∙ z.0)), z.1)

cons_distinct : (x : ℕ) (p : List ℕ) → (In x p → ⊥) → distinct p ≡ true → distinct (x ∷ p) ≡ true
unfolding distinct
cons_distinct x p h e = both (not (member x p)) (distinct p) (ap not (falsely (member x p) (λ k. h (member_in x p k)))) e

at_two : (x t : ℕ) (p : List ℕ) → distinct (x ∷ p) ≡ true → t < length p → x ≡ get_or p t 0 → ⊥
at_two x t p d l e = (distinct_cons x p d).0 (subst (λ y. In y p) (sym e) (in_at p t 0 l))

distinct_at : (p : List ℕ) → distinct p ≡ true → (s t : ℕ) → s < length p → t < length p → get_or p s 0 ≡ get_or p t 0 → s ≡ t
distinct_at [] d s t l m e = absurd (omega arith)
distinct_at (x ∷ p) d zero zero l m e = refl
distinct_at (x ∷ p) d zero (suc t) l m e = absurd (at_two x t p d (omega arith) e)
distinct_at (x ∷ p) d (suc s) zero l m e = absurd (at_two x s p d (omega arith) (sym e))
distinct_at (x ∷ p) d (suc s) (suc t) l m e = ap suc (distinct_at p (distinct_cons x p d).1 s t (omega arith) (omega arith) e)

at_distinct : (p : List ℕ) → ((s t : ℕ) → s < length p → t < length p → get_or p s 0 ≡ get_or p t 0 → s ≡ t) → distinct p ≡ true
unfolding distinct
at_distinct [] h = refl
at_distinct (x ∷ p) h =
    cons_distinct x p
    (λ k. let z = at_in x p 0 k in let q : 0 ≡ suc z.0 = h 0 (suc z.0) (omega arith) (omega (arith, z.1)) (sym z.2) in omega arith)
    (at_distinct p (λ s t l m e. let z = h (suc s) (suc t) (omega arith) (omega arith) e in omega arith))

-- ---- a further copy above the copy before it
behind : (ms : List Bool) (s : ℕ) → get_or (drop 1 ms) s false ≡ get_or ms (suc s) false
behind [] s = refl
behind (m ∷ ms) s = refl

ascends_cons : (ms : List Bool) (x y : ℕ) (p : List ℕ) → ascends ms (x ∷ y ∷ p) ≡ true → (get_or ms 1 false ≡ true → x < y) × (ascends (drop 1 ms) (y ∷ p) ≡ true)
unfolding ascends
ascends_cons ms x y p e =
    let z = both_of (not (get_or ms 1 false) || ltb x y) (ascends (drop 1 ms) (y ∷ p)) e in
    ((λ m. ltb-true x y (implied (get_or ms 1 false) (ltb x y) z.0 m)), z.1)

cons_ascends : (ms : List Bool) (x y : ℕ) (p : List ℕ) → (get_or ms 1 false ≡ true → x < y) → ascends (drop 1 ms) (y ∷ p) ≡ true → ascends ms (x ∷ y ∷ p) ≡ true
unfolding ascends
cons_ascends ms x y p h e = both (not (get_or ms 1 false) || ltb x y) (ascends (drop 1 ms) (y ∷ p)) (go (get_or ms 1 false) h) e
  where
    go : (m : Bool) → (m ≡ true → x < y) → (not m || ltb x y) ≡ true
    go true k = lt-ltb x y (k refl)
    go false k = refl

ascends_at : (ms : List Bool) (p : List ℕ) → ascends ms p ≡ true → (s : ℕ) → suc s < length p → get_or ms (suc s) false ≡ true → get_or p s 0 < get_or p (suc s) 0
ascends_at ms [] e s l m = absurd (omega arith)
ascends_at ms (x ∷ []) e s l m = absurd (omega arith)
ascends_at ms (x ∷ y ∷ p) e zero l m = (ascends_cons ms x y p e).0 m
ascends_at ms (x ∷ y ∷ p) e (suc s) l m = ascends_at (drop 1 ms) (y ∷ p) (ascends_cons ms x y p e).1 s (omega arith) (behind ms (suc s) ∙ m)

at_ascends : (ms : List Bool) (p : List ℕ) → ((s : ℕ) → suc s < length p → get_or ms (suc s) false ≡ true → get_or p s 0 < get_or p (suc s) 0) → ascends ms p ≡ true
unfolding ascends
at_ascends ms [] h = refl
at_ascends ms (x ∷ []) h = refl
at_ascends ms (x ∷ y ∷ p) h =
    cons_ascends ms x y p (h 0 (omega arith)) (at_ascends (drop 1 ms) (y ∷ p) (λ s l m. h (suc s) (omega arith) (sym (behind ms (suc s)) ∙ m)))

-- of the first n
front_ascends : (ms : List Bool) (p : List ℕ) (n : ℕ) → length (take n p) ≡ n → ascends ms (take n p) ≡ true → Ascent (λ s. get_or ms s false) n (place p)
front_ascends ms p n e h s l m =
    let i : s + 1 ≡ suc s = omega arith in
    let z = ascends_at ms (take n p) h s (omega arith) (rw i at m) in
    rw i (omega (arith, z, get_or-take n p s 0 (omega arith), get_or-take n p (suc s) 0 (omega arith)))

ascends_front : (ms : List Bool) (p : List ℕ) (n : ℕ) → length (take n p) ≡ n → Ascent (λ s. get_or ms s false) n (place p) → ascends ms (take n p) ≡ true
ascends_front ms p n e h = at_ascends ms (take n p) (λ s l m.
    let i : suc s ≡ s + 1 = omega arith in
    let z : place p s < place p (suc s) = rw i (h s (omega arith) (rw i at m)) in
    omega (arith, z, get_or-take n p s 0 (omega arith), get_or-take n p (suc s) 0 (omega arith)))

-- ---- allowed
pub allowed_placing : (f : Floating) (p : List ℕ) → Allowed f p → Placing f p
allowed_placing f p e =
    let qs = f.lists in
    let a = allowed_parts f p e in
    let n = (cut qs p a.fit).many in
    record {
      eight = a.eight;
      permitted = λ i l. member_in (get_or p i 0) (get_or qs i []) (fits_at qs p a.fit i l);
      apart = λ i j l m q. distinct_at (take (length qs) p) a.apart i j (omega (arith, n, l)) (omega (arith, n, m))
          (get_or-take (length qs) p i 0 l ∙ q ∙ sym (get_or-take (length qs) p j 0 m));
      ascent = front_ascends f.marks p (length qs) n a.ascent;
      unused = fits_rest qs p a.fit;
    }

pub placing_allowed : (f : Floating) (p : List ℕ) → length f.lists ≤ copy_limit → Placing f p → Allowed f p
placing_allowed f p few a =
    let qs = f.lists in
    let k : length qs ≤ length p = omega (arith, few, a.eight) in
    let n = length-take-le (length qs) p k in
    parts_allowed f p (record {
      eight = a.eight;
      fit = at_fits qs p k (λ i l. in_member (get_or p i 0) (get_or qs i []) (a.permitted i l)) a.unused;
      apart = at_distinct (take (length qs) p) (λ i j l m q.
          let u : i < length qs = omega (arith, n, l) in
          let v : j < length qs = omega (arith, n, m) in
          a.apart i j u v (sym (get_or-take (length qs) p i 0 u) ∙ q ∙ get_or-take (length qs) p j 0 v));
      ascent = ascends_front f.marks p (length qs) n a.ascent;
    })
