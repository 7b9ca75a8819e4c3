-- What stands in a list, at which place, and in one that is kept, joined or mapped.
use Rattle.std.specs.Prelude.{◌≡◌, ◌⊎◌, Bool, cond, ◌||◌, ℕ, zero, suc, ◌<◌, eqb, length, get_or}
use Rattle.std.proofs.Math.Path.{refl, ap}
use Rattle.std.proofs.Common.{sym, ◌∙◌, subst, ⊎_elim, arith, eqb-true, eq-eqb}
use Rattle.std.proofs.Math.Logic.{inl, inr}
use Rattle.std.proofs.Math.Bool.{true, false}
use Rattle.std.proofs.lemmas.Bool.{false≢true}
use mathlib.Core.List.{List, [], ◌∷◌, ◌++◌, map}
use Rattle.scope.specs.Lists.{all, keep, flat, member}
use Rattle.basics.specs.Each.{In, Ordered}
use Rattle.basics.specs.Tests.{and_left, and_right, both, one_of, or_first, or_second, test}

-- ---- positions
pub member_cons : (x y : ℕ) (l : List ℕ) → member x (y ∷ l) ≡ true → (x ≡ y) ⊎ (member x l ≡ true)
unfolding member
member_cons x y l e = ⊎_elim (λ h. inl (eqb-true x y h)) (λ h. inr h) (one_of (eqb x y) (member x l) e)

pub member_here : (x y : ℕ) (l : List ℕ) → x ≡ y → member x (y ∷ l) ≡ true
unfolding member
member_here x y l e = or_first (eqb x y) (member x l) (eq-eqb x y e)

pub member_there : (x y : ℕ) (l : List ℕ) → member x l ≡ true → member x (y ∷ l) ≡ true
unfolding member
member_there x y l e = or_second (eqb x y) (member x l) e

pub member_none : {A : Type 0} (x : ℕ) → member x [] ≡ true → A
unfolding member
member_none x e = absurd (false≢true e)

pub member_in : (x : ℕ) (l : List ℕ) → member x l ≡ true → In x l
member_in x [] e = member_none x e
member_in x (y ∷ l) e = ⊎_elim (λ h. inl h) (λ h. inr (member_in x l h)) (member_cons x y l e)

pub in_member : (x : ℕ) (l : List ℕ) → In x l → member x l ≡ true
in_member x [] h = absurd h
in_member x (y ∷ l) (inl e) = member_here x y l e
in_member x (y ∷ l) (inr h) = member_there x y l (in_member x l h)

pub member_append : (x : ℕ) (l m : List ℕ) → member x (l ++ m) ≡ (member x l || member x m)
unfolding member
member_append x [] m = refl
member_append x (y ∷ l) m = go (eqb x y) (member_append x l m)
  where
    go : (t : Bool) → member x (l ++ m) ≡ (member x l || member x m) → (t || member x (l ++ m)) ≡ ((t || member x l) || member x m)
    go true h = refl
    go false h = h

module _ {A : Type 0} where
  -- ---- at a place
  pub in_at : (l : List A) (i : ℕ) (d : A) → i < length l → In (get_or l i d) l
  in_at [] i d h = absurd (omega arith)
  in_at (x ∷ l) zero d h = inl refl
  in_at (x ∷ l) (suc i) d h = inr (in_at l i d (omega arith))

  pub at_in : (x : A) (l : List A) (d : A) → In x l → (i : ℕ) × (i < length l) × (get_or l i d ≡ x)
  at_in x [] d h = absurd h
  at_in x (y ∷ l) d (inl e) = (0, omega arith, sym e)
  at_in x (y ∷ l) d (inr h) = let z = at_in x l d h in (suc z.0, omega (arith, z.1), z.2)

  -- ---- one list behind the other
  pub in_left : (x : A) (l m : List A) → In x l → In x (l ++ m)
  in_left x [] m h = absurd h
  in_left x (y ∷ l) m (inl e) = inl e
  in_left x (y ∷ l) m (inr h) = inr (in_left x l m h)

  pub in_right : (x : A) (l m : List A) → In x m → In x (l ++ m)
  in_right x [] m h = h
  in_right x (y ∷ l) m h = inr (in_right x l m h)

  pub in_either : (x : A) (l m : List A) → In x (l ++ m) → In x l ⊎ In x m
  in_either x [] m h = inr h
  in_either x (y ∷ l) m (inl e) = inl (inl e)
  in_either x (y ∷ l) m (inr h) = ⊎_elim (λ g. inl (inr g)) (λ g. inr g) (in_either x l m h)

  -- ---- those that a test keeps
  pub keep_yes : (f : A → Bool) (x : A) (l : List A) → f x ≡ true → keep f (x ∷ l) ≡ x ∷ keep f l
  unfolding keep
  keep_yes f x l e = rw e

  pub keep_no : (f : A → Bool) (x : A) (l : List A) → f x ≡ false → keep f (x ∷ l) ≡ keep f l
  unfolding keep
  keep_no f x l e = rw e

  pub in_keep : (f : A → Bool) (x : A) (l : List A) → In x (keep f l) → In x l × (f x ≡ true)
  unfolding keep
  in_keep f x [] h = absurd h
  in_keep f x (y ∷ l) h = go (f y) refl (λ k. in_keep f x l k) h
    where
      go : (b : Bool) → f y ≡ b → (In x (keep f l) → In x l × (f x ≡ true)) → In x (cond b (y ∷ []) [] ++ keep f l) → In x (y ∷ l) × (f x ≡ true)
      go true e ih (inl q) = (inl q, ap f q ∙ e)
      go true e ih (inr k) = let z = ih k in (inr z.0, z.1)
      go false e ih k = let z = ih k in (inr z.0, z.1)

  pub keep_in : (f : A → Bool) (x : A) (l : List A) → In x l → f x ≡ true → In x (keep f l)
  keep_in f x [] h e = absurd h
  keep_in f x (y ∷ l) h e = go h (λ k. keep_in f x l k e) (test (f y))
    where
      go : In x (y ∷ l) → (In x l → In x (keep f l)) → (f y ≡ true) ⊎ (f y ≡ false) → In x (keep f (y ∷ l))
      go (inl q) ih t = rw (keep_yes f y l (sym (ap f q) ∙ e)) (inl q)
      go (inr k) ih (inl t) = rw (keep_yes f y l t) (inr (ih k))
      go (inr k) ih (inr t) = rw (keep_no f y l t) (ih k)

module _ {A B : Type 0} where
  pub in_map : (f : A → B) (y : B) (l : List A) → In y (map f l) → (x : A) × In x l × (y ≡ f x)
  in_map f y [] h = absurd h
  in_map f y (x ∷ l) (inl e) = (x, inl refl, e)
  in_map f y (x ∷ l) (inr h) = let z = in_map f y l h in (z.0, inr z.1, z.2)

  pub map_in : (f : A → B) (x : A) (l : List A) → In x l → In (f x) (map f l)
  map_in f x [] h = absurd h
  map_in f x (y ∷ l) (inl e) = inl (ap f e)
  map_in f x (y ∷ l) (inr h) = inr (map_in f x l h)

  pub in_flat : (f : A → List B) (y : B) (l : List A) → In y (flat f l) → (x : A) × In x l × In y (f x)
  unfolding flat
  in_flat f y [] h = absurd h
  in_flat f y (x ∷ l) h = go (λ k. in_flat f y l k) (in_either y (f x) (flat f l) h)
    where
      go : (In y (flat f l) → (z : A) × In z l × In y (f z)) → In y (f x) ⊎ In y (flat f l) → (z : A) × In z (x ∷ l) × In y (f z)
      go ih (inl k) = (x, inl refl, k)
      go ih (inr k) = let z = ih k in (z.0, inr z.1, z.2)

  pub flat_in : (f : A → List B) (x : A) (y : B) (l : List A) → In x l → In y (f x) → In y (flat f l)
  unfolding flat
  flat_in f x y [] h k = absurd h
  flat_in f x y (z ∷ l) (inl e) k = in_left y (f z) (flat f l) (subst (λ v. In y (f v)) e k)
  flat_in f x y (z ∷ l) (inr h) k = in_right y (f z) (flat f l) (flat_in f x y l h k)

-- ---- lists in order
pub ordered_append : {A : Type 0} (R : A → A → Type 0) (l m : List A) → Ordered R l → Ordered R m → ((x y : A) → In x l → In y m → R x y)
    → Ordered R (l ++ m)
ordered_append R [] m a b h = b
ordered_append R (x ∷ l) m a b h =
    ((λ y k. ⊎_elim (λ g. a.0 y g) (λ g. h x y (inl refl) g) (in_either y l m k)), ordered_append R l m a.1 b (λ z y k g. h z y (inr k) g))

pub ordered_keep : {A : Type 0} (R : A → A → Type 0) (f : A → Bool) (l : List A) → Ordered R l → Ordered R (keep f l)
unfolding keep
ordered_keep R f [] a = tt
ordered_keep R f (x ∷ l) a = go (ordered_keep R f l a.1) (test (f x))
  where
    go : Ordered R (keep f l) → (f x ≡ true) ⊎ (f x ≡ false) → Ordered R (keep f (x ∷ l))
    go ih (inl e) = rw (keep_yes f x l e) ((λ y k. a.0 y (in_keep f y l k).0), ih)
    go ih (inr e) = rw (keep_no f x l e) ih

pub ordered_map : {A : Type 0} {B : Type 0} (R : A → A → Type 0) (S : B → B → Type 0) (g : A → B) (l : List A)
    → ((x y : A) → In x l → In y l → R x y → S (g x) (g y)) → Ordered R l → Ordered S (map g l)
ordered_map R S g [] h a = tt
ordered_map {A} {B} R S g (x ∷ l) h a = (above, ordered_map R S g l (λ z y k m. h z y (inr k) (inr m)) a.1)
  where
    above : (y : B) → In y (map g l) → S (g x) y
    above y k = let z = in_map g y l k in rw z.2 (h x z.0 (inl refl) (inr z.1) (a.0 z.0 z.1))

-- ---- a test that all pass
pub all_in : {A : Type 0} (f : A → Bool) (l : List A) → all f l ≡ true → (x : A) → In x l → f x ≡ true
unfolding all
all_in f [] e x h = absurd h
all_in f (y ∷ l) e x (inl q) = ap f q ∙ and_left (f y) (all f l) e
all_in f (y ∷ l) e x (inr h) = all_in f l (and_right (f y) (all f l) e) x h

pub in_all : {A : Type 0} (f : A → Bool) (l : List A) → ((x : A) → In x l → f x ≡ true) → all f l ≡ true
unfolding all
in_all f [] h = refl
in_all f (y ∷ l) h = both (f y) (all f l) (h y (inl refl)) (in_all f l (λ x i. h x (inr i)))
