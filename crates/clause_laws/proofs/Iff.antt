-- A test, and a place in a list of places, as what they say: one equivalence for each way in which Refusals.antt builds a test or a list.
use Rattle.std.specs.Prelude.{ℕ, ◌≤◌, ◌≡◌, refl, ◌↔◌, ◌⊎◌, Bool, true, false, not, ◌&&◌, ◌||◌, List, [], ◌∷◌, ◌++◌}
use Rattle.std.proofs.Common.{arith, sym, ap, ◌∙◌, inl, inr, true≢false}
use Rattle.std.proofs.lemmas.Bool.{false≢true, not-true}
use Rattle.std.proofs.Math.Option.{some}
use Rattle.scope.specs.Lists.{all, flat, among}
use Rattle.scope.specs.Refusals.{due_at, least}
use Rattle.reading_laws.proofs.Proved as reads
use Rattle.basics.specs.Lists.{same_law}
use Rattle.clause_laws.specs.Clauses.{FirstAt}
use Rattle.basics.specs.Each.{Some, Each, In, each_in, in_each}
use Rattle.basics.specs.Tests.{or_first, or_second}

pub then : {A B C : Type 0} → (A ↔ B) → (B ↔ C) → (A ↔ C)
then f g = ((λ a. g.0 (f.0 a)), (λ c. f.1 (g.1 c)))

-- ---- tests
pub or_iff : (a b : Bool) {A B : Type 0} → (a ≡ true ↔ A) → (b ≡ true ↔ B) → ((a || b) ≡ true) ↔ (A ⊎ B)
or_iff a b {A} {B} f g = (there a refl, back)
  where
    there : (t : Bool) → a ≡ t → (t || b) ≡ true → A ⊎ B
    there true e q = inl (f.0 e)
    there false e q = inr (g.0 q)

    back : A ⊎ B → (a || b) ≡ true
    back (inl x) = or_first a b (f.1 x)
    back (inr y) = or_second a b (g.1 y)

pub and_iff : (a b : Bool) {A B : Type 0} → (a ≡ true ↔ A) → (b ≡ true ↔ B) → ((a && b) ≡ true) ↔ (A × B)
and_iff a b {A} {B} f g = (there a refl, back)
  where
    there : (t : Bool) → a ≡ t → (t && b) ≡ true → A × B
    there true e q = (f.0 e, g.0 q)
    there false e q = absurd (false≢true q)

    back : A × B → (a && b) ≡ true
    back x = ap (λ z. z && b) (f.1 x.0) ∙ g.1 x.1

pub self : {A : Type 0} → A ↔ A
self = ((λ a. a), (λ a. a))

pub not_iff : (a : Bool) {A : Type 0} → (a ≡ true ↔ A) → (not a ≡ true) ↔ (A → ⊥)
not_iff a {A} f = ((λ e x. true≢false (sym (f.1 x) ∙ not-true a e)), back a refl)
  where
    back : (t : Bool) → a ≡ t → (A → ⊥) → not t ≡ true
    back true e h = absurd (h (f.0 e))
    back false e h = refl

pub all_iff : {A : Type 0} (f : A → Bool) (P : A → Type 0) → ((x : A) → f x ≡ true ↔ P x) → (l : List A) → (all f l ≡ true) ↔ Each P l
unfolding all
all_iff f P h [] = ((λ e. tt), (λ e. refl))
all_iff f P h (x ∷ l) = and_iff (f x) (all f l) (h x) (all_iff f P h l)

-- not all are so: one is not
pub some_not : {A : Type 0} (f : A → Bool) (l : List A) → (not (all f l) ≡ true) ↔ Some (λ (x : A). f x ≡ false) l
unfolding all
some_not f [] = ((λ e. false≢true e), (λ e. absurd e))
some_not {A} f (x ∷ l) = (there (some_not f l).0 (f x) refl, back (some_not f l).1)
  where
    there : (not (all f l) ≡ true → Some (λ (y : A). f y ≡ false) l) → (t : Bool) → f x ≡ t → not (t && all f l) ≡ true → Some (λ (y : A). f y ≡ false) (x ∷ l)
    there ih true e q = inr (ih q)
    there ih false e q = inl e

    last : (t : Bool) → not (t && false) ≡ true
    last true = refl
    last false = refl

    back : (Some (λ (y : A). f y ≡ false) l → not (all f l) ≡ true) → (f x ≡ false) ⊎ Some (λ (y : A). f y ≡ false) l → not (f x && all f l) ≡ true
    back ih (inl e) = ap (λ z. not (z && all f l)) e
    back ih (inr e) = ap (λ z. not (f x && z)) (not-true (all f l) (ih e)) ∙ last (f x)

-- ---- lists
pub either_iff : {A B C D : Type 0} → (A ↔ C) → (B ↔ D) → (A ⊎ B) ↔ (C ⊎ D)
either_iff {A} {B} {C} {D} f g = (there, back)
  where
    there : A ⊎ B → C ⊎ D
    there (inl v) = inl (f.0 v)
    there (inr v) = inr (g.0 v)

    back : C ⊎ D → A ⊎ B
    back (inl v) = inl (f.1 v)
    back (inr v) = inr (g.1 v)

pub some_iff : {A : Type 0} (P Q : A → Type 0) → ((x : A) → P x ↔ Q x) → (l : List A) → Some P l ↔ Some Q l
some_iff P Q h [] = self
some_iff P Q h (x ∷ l) = either_iff (h x) (some_iff P Q h l)

pub in_append : {A : Type 0} (P : A → Type 0) (a b : List A) → Some P (a ++ b) ↔ (Some P a ⊎ Some P b)
in_append P [] b = ((λ v. inr v), back)
  where
    back : ⊥ ⊎ Some P b → Some P b
    back (inl v) = absurd v
    back (inr v) = v
in_append P (x ∷ a) b = (there (in_append P a b).0, back (in_append P a b).1)
  where
    there : (Some P (a ++ b) → Some P a ⊎ Some P b) → P x ⊎ Some P (a ++ b) → (P x ⊎ Some P a) ⊎ Some P b
    there ih (inl v) = inl (inl v)
    there ih (inr v) = go (ih v)
      where
        go : Some P a ⊎ Some P b → (P x ⊎ Some P a) ⊎ Some P b
        go (inl w) = inl (inr w)
        go (inr w) = inr w

    back : (Some P a ⊎ Some P b → Some P (a ++ b)) → (P x ⊎ Some P a) ⊎ Some P b → P x ⊎ Some P (a ++ b)
    back ih (inl (inl v)) = inl v
    back ih (inl (inr v)) = inr (ih (inl v))
    back ih (inr v) = inr (ih (inr v))

pub in_flat : {A B : Type 0} (P : B → Type 0) (f : A → List B) (Q : A → Type 0) → ((x : A) → Some P (f x) ↔ Q x) → (l : List A) → Some P (flat f l) ↔ Some Q l
unfolding flat
in_flat P f Q h [] = self
in_flat P f Q h (x ∷ l) = then (in_append P (f x) (flat f l)) (either_iff (h x) (in_flat P f Q h l))

pub among_iff : (x : List ℕ) (l : List (List ℕ)) → (among x l ≡ true) ↔ In x l
unfolding among
among_iff x [] = ((λ e. false≢true e), (λ e. absurd e))
among_iff x (y ∷ l) = or_iff _ _ (same_law x y) (among_iff x l)

-- ---- places
in_due : (t : Bool) (i j : ℕ) → In j (due_at t i) ↔ ((j ≡ i) × (t ≡ true))
in_due true i j = (there, λ v. inl v.0)
  where
    there : (j ≡ i) ⊎ ⊥ → (j ≡ i) × (true ≡ true)
    there (inl e) = (e, refl)
    there (inr e) = absurd e
in_due false i j = ((λ v. absurd v), (λ v. absurd (false≢true v.1)))

pub due_iff : (t : Bool) (i j : ℕ) {T : Type 0} → (t ≡ true ↔ T) → In j (due_at t i) ↔ ((j ≡ i) × T)
due_iff t i j h = then (in_due t i j) ((λ v. (v.0, h.0 v.1)), (λ v. (v.0, h.1 v.1)))

-- the first of the places in a list
pub first_iff : (l : List ℕ) (D : ℕ → Type 0) → ((j : ℕ) → In j l ↔ D j) → (i : ℕ) → (least l ≡ some i) ↔ FirstAt D i
first_iff l D h i =
    then ((reads.laws).first_place l i) (
      (λ v. record { due = (h i).0 v.member; first = λ j d. each_in (λ k. i ≤ k) l j ((h j).1 d) v.lower }),
      (λ v. record { member = (h i).1 v.due; lower = in_each (λ k. i ≤ k) l (λ j m. v.first j ((h j).0 m)) }),
    )

-- no place at all
pub none_iff : (l : List ℕ) (D : ℕ → Type 0) → ((j : ℕ) → In j l ↔ D j) → (l ≡ []) ↔ ((j : ℕ) → D j → ⊥)
none_iff [] D h = ((λ e j d. (h j).1 d), (λ f. refl))
none_iff (x ∷ l) D h = ((λ e. let z : ◌≡◌ {A = ℕ} 0 1 = cc in absurd (omega arith)), (λ f. absurd (f x ((h x).0 (inl refl)))))
