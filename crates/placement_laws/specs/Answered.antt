-- There is always an answer to why there is no placement: among all sets of floaters, those with too few positions have one that no other goes before, or there is none.
use Rattle.std.specs.Prelude.{◌≡◌, refl, ◌⊎◌, Bool, true, false, ◌&&◌, ◌||◌, List, [], ◌∷◌, ◌++◌, map, ℕ, ◌+◌, ◌<◌, eqb, ltb, length}
use Rattle.std.proofs.Common.{sym, ap, ◌∙◌, subst, inl, inr, ⊎_elim, true≢false, arith, ltb-true, lt-ltb, eqb-true, eq-eqb}
use Rattle.std.proofs.lemmas.Bool.{false≢true}
use Rattle.scope.specs.Lists.{tabled}
use Rattle.scope.specs.Positions.{Floating}
use Rattle.scope.specs.Placements.{less}
use Rattle.scope.specs.Reasons.{too_few, goes_before, Reason}
use Rattle.basics.specs.Each.{In}
use Rattle.basics.specs.Tests.{test, falsely, or_second}
use Rattle.basics.specs.Members.{in_left, in_right, map_in}
use Rattle.basics.specs.Tabled.{tabled_in}
use Rattle.placement_laws.specs.Terms.{Rising}
use Rattle.placement_laws.specs.Lines.{tabled_rising}
use Rattle.placement_laws.specs.Order.{less_cases, less_here, less_there, less_self}
use Rattle.placement_laws.specs.Sets.{first_least}
use Rattle.placement_laws.specs.Reasons.{many, numbers, few_rising, few_some}

-- ---- what goes before
less_trans : (p q r : List ℕ) → less p q ≡ true → less q r ≡ true → less p r ≡ true
unfolding less
less_trans p q [] a b = absurd (by q b)
  where
    by : (l : List ℕ) → less l [] ≡ true → ⊥
    by [] e = false≢true e
    by (x ∷ l) e = false≢true e
less_trans [] q (z ∷ r) a b = refl
less_trans (x ∷ p) [] (z ∷ r) a b = absurd (false≢true a)
less_trans (x ∷ p) (y ∷ q) (z ∷ r) a b =
    ⊎_elim
    (λ u. ⊎_elim (λ v. less_here x z p r (omega arith)) (λ v. less_here x z p r (omega (arith, v.0))) (less_cases y z q r b))
    (λ u. ⊎_elim (λ v. less_here x z p r (omega (arith, u.0))) (λ v. less_there x z p r (u.0 ∙ v.0) (less_trans p q r u.1 v.1)) (less_cases y z q r b))
    (less_cases x y p q a)

abbrev Goes : List ℕ → List ℕ → Type 0
Goes l m = (length l < length m) ⊎ ((length l ≡ length m) × (less l m ≡ true))

goes : (l m : List ℕ) → goes_before l m ≡ true → Goes l m
goes l m e = go (ltb (length l) (length m)) refl (eqb (length l) (length m)) refl e
  where
    go : (a : Bool) → ltb (length l) (length m) ≡ a → (b : Bool) → eqb (length l) (length m) ≡ b → (a || b && less l m) ≡ true → Goes l m
    go true p b q h = inl (ltb-true (length l) (length m) p)
    go false p true q h = inr (eqb-true (length l) (length m) q, h)
    go false p false q h = absurd (false≢true h)

gone : (l m : List ℕ) → Goes l m → goes_before l m ≡ true
gone l m (inl h) = ap (λ a. a || eqb (length l) (length m) && less l m) (lt-ltb (length l) (length m) h)
gone l m (inr h) = or_second (ltb (length l) (length m)) (eqb (length l) (length m) && less l m) (ap (λ b. b && less l m) (eq-eqb (length l) (length m) h.0) ∙ h.1)

goes_trans : (l m o : List ℕ) → goes_before l m ≡ true → goes_before m o ≡ true → goes_before l o ≡ true
goes_trans l m o a b = gone l o (go (goes l m a) (goes m o b))
  where
    go : Goes l m → Goes m o → Goes l o
    go (inl u) (inl v) = inl (omega arith)
    go (inl u) (inr v) = inl (omega (arith, v.0))
    go (inr u) (inl v) = inl (omega (arith, u.0))
    go (inr u) (inr v) = inr (u.0 ∙ v.0, less_trans l m o u.1 v.1)

goes_self : (l : List ℕ) → goes_before l l ≡ true → ⊥
goes_self l e = ⊎_elim (λ h. omega arith) (λ h. less_self l h.1) (goes l l e)

-- of some lists, one that passes the test and that none goes before; or none passes
FirstAmong : (List ℕ → Bool) → List (List ℕ) → Type 0
FirstAmong t ls =
    ((l : List ℕ) × (t l ≡ true) × ((m : List ℕ) → In m ls → t m ≡ true → goes_before m l ≡ false)) ⊎ ((m : List ℕ) → In m ls → t m ≡ true → ⊥)

one_more : (t : List ℕ → Bool) (x : List ℕ) (ls : List (List ℕ)) → FirstAmong t ls → FirstAmong t (x ∷ ls)
unfolding FirstAmong
one_more t x ls known = ⊎_elim with_it_lem without_it_lem (test (t x))
  where
    itself : (m : List ℕ) → m ≡ x → goes_before m x ≡ false
    itself m q = falsely (goes_before m x) (λ r. goes_self x (subst (λ y. goes_before y x ≡ true) q r))

    with_it_lem : t x ≡ true → FirstAmong t (x ∷ ls)
    with_it_lem p = ⊎_elim
        (λ z. ⊎_elim
        (λ b. inl (x, p, λ m h e. ⊎_elim (itself m) (λ q. falsely (goes_before m x) (λ r. true≢false (sym (goes_trans m x z.0 r b) ∙ z.2 m q e))) h))
        (λ b. inl (z.0, z.1, λ m h e. ⊎_elim (λ (q : m ≡ x). subst (λ y. goes_before y z.0 ≡ false) (sym q) b) (λ q. z.2 m q e) h))
        (test (goes_before x z.0)))
        (λ none. inl (x, p, λ m h e. ⊎_elim (itself m) (λ q. absurd (none m q e)) h))
        known

    without_it_lem : t x ≡ false → FirstAmong t (x ∷ ls)
    without_it_lem p = ⊎_elim
        (λ z. inl (z.0, z.1, λ m h e. ⊎_elim (λ (q : m ≡ x). absurd (true≢false (sym e ∙ ap t q ∙ p))) (λ q. z.2 m q e) h))
        (λ none. inr (λ m h e. ⊎_elim (λ (q : m ≡ x). true≢false (sym e ∙ ap t q ∙ p)) (λ q. none m q e) h))
        known

first_among : (t : List ℕ → Bool) (ls : List (List ℕ)) → FirstAmong t ls
unfolding FirstAmong
first_among t [] = inr (λ m h e. h)
first_among t (x ∷ ls) = one_more t x ls (first_among t ls)

-- ---- all sets
parts : List ℕ → List (List ℕ)
parts [] = [] ∷ []
parts (x ∷ l) = map (λ m. x ∷ m) (parts l) ++ parts l

in_parts : (l m : List ℕ) → Rising l → Rising m → ((y : ℕ) → In y m → In y l) → In m (parts l)
unfolding parts
in_parts [] [] h k t = inl refl
in_parts [] (y ∷ m) h k t = absurd (t y (inl refl))
in_parts (x ∷ l) [] h k t = in_right [] (map (λ m. x ∷ m) (parts l)) (parts l) (in_parts l [] h.1 tt (λ y q. absurd q))
in_parts (x ∷ l) (y ∷ m) h k t =
    ⊎_elim (here (λ u. in_parts l m h.1 k.1 u)) (there (λ u. in_parts l (y ∷ m) h.1 k u)) (t y (inl refl))
  where
    here : (((z : ℕ) → In z m → In z l) → In m (parts l)) → y ≡ x → In (y ∷ m) (map (λ m. x ∷ m) (parts l) ++ parts l)
    here known e =
        in_left (y ∷ m) (map (λ m. x ∷ m) (parts l)) (parts l)
        (subst (λ z. In (z ∷ m) (map (λ m. x ∷ m) (parts l))) (sym e)
        (map_in (λ m. x ∷ m) m (parts l)
        (known (λ z q. ⊎_elim (λ (r : z ≡ x). absurd (omega (arith, r, e, k.0 z q))) (λ r. r) (t z (inr q))))))

    there : (((z : ℕ) → In z (y ∷ m) → In z l) → In (y ∷ m) (parts l)) → In y l → In (y ∷ m) (map (λ m. x ∷ m) (parts l) ++ parts l)
    there known i =
        in_right (y ∷ m) (map (λ m. x ∷ m) (parts l)) (parts l)
        (known (λ z q. ⊎_elim (λ (r : z ≡ x). absurd (omega (arith, r, h.0 y i, first_least y m k z q))) (λ r. r) (t z q)))

-- ---- the answer
pub some_reason : (f : Floating) → (l : List ℕ) × Reason f l
unfolding FirstAmong
some_reason f = ⊎_elim (λ z. given z.0 z.1 z.2) (λ none. ([], λ m e. none m (among m e) e)) (first_among (too_few f) (parts (tabled (λ x. x) 1 (many f))))
  where
    among : (m : List ℕ) → too_few f m ≡ true → In m (parts (tabled (λ x. x) 1 (many f)))
    among m e =
        in_parts (tabled (λ x. x) 1 (many f)) m (tabled_rising 1 (many f)) (few_rising f m e)
        (λ y q. let z = numbers f m e y q in tabled_in 1 (many f) y z.0 (omega (arith, z.1)))

    given : (l : List ℕ) → too_few f l ≡ true → ((m : List ℕ) → In m (parts (tabled (λ x. x) 1 (many f))) → too_few f m ≡ true → goes_before m l ≡ false) → (l : List ℕ) × Reason f l
    given [] e h = absurd (few_some f e)
    given (i ∷ l) e h = (i ∷ l, record { few = e; first = λ m q. h m (among m q) q })
