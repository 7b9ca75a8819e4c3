-- What the definitions over lists say of lists in pieces, of lists that are mapped, and of lists with nothing in them; and that their tests of equality tell
-- equal lists.
use Rattle.std.specs.Prelude.{◌≡◌, refl, Bool, true, false, cond, ◌&&◌, ◌||◌, ◌↔◌, List, [], ◌∷◌, ◌++◌, map, ℕ, zero, suc, ◌+◌, ◌≤◌, eqb, length, replicate}
use Rattle.std.proofs.Common.{sym, ap, ap₂, ◌∙◌, subst, append_assoc, append-nil, arith, eqb-true, eq-eqb, length-append}
use Rattle.std.proofs.lemmas.Bool.{false≢true}
use Rattle.std.proofs.Math.Option.{Option, none, some}
use Rattle.std.proofs.lemmas.List.{map-append}
use Rattle.scope.specs.Bytes.{upper, same_folded}
use Rattle.scope.specs.Lists.{all, flat, keep, same, among, shared, on_last, optional}
use Rattle.scope.specs.Refusals.{due_at}
use Rattle.basics.specs.Tests.{and_left, and_right, both, falsely}
use Rattle.basics.specs.Each.{Each}

-- ---- lists in pieces
pub flat_nil : {A B : Type 0} (f : A → List B) → flat f [] ≡ []
unfolding flat
flat_nil f = refl

pub flat_cons : {A B : Type 0} (f : A → List B) (x : A) (l : List A) → flat f (x ∷ l) ≡ f x ++ flat f l
unfolding flat
flat_cons f x l = refl

pub flat_append : {A B : Type 0} (f : A → List B) (l m : List A) → flat f (l ++ m) ≡ flat f l ++ flat f m
unfolding flat
flat_append f [] m = refl
flat_append f (x ∷ l) m = ap (λ t. f x ++ t) (flat_append f l m) ∙ sym (append_assoc (f x) (flat f l) (flat f m))

pub flat_one : {A B : Type 0} (f : A → List B) (x : A) → flat f (x ∷ []) ≡ f x
unfolding flat
flat_one f x = append-nil (f x)

pub flat_snoc : {A B : Type 0} (f : A → List B) (l : List A) (x : A) → flat f (l ++ (x ∷ [])) ≡ flat f l ++ f x
flat_snoc f l x = flat_append f l (x ∷ []) ∙ ap (λ t. flat f l ++ t) (flat_one f x)

pub flat_append_length : {A B : Type 0} (f : A → List B) (l m : List A) → length (flat f (l ++ m)) ≡ length (flat f l) + length (flat f m)
flat_append_length f l m = ap length (flat_append f l m) ∙ length-append (flat f l) (flat f m)

pub flat_one_length : {A B : Type 0} (f : A → List B) (x : A) → length (flat f (x ∷ [])) ≡ length (f x)
flat_one_length f x = ap length (flat_one f x)

pub keep_append : {A : Type 0} (f : A → Bool) (l m : List A) → keep f (l ++ m) ≡ keep f l ++ keep f m
unfolding keep
keep_append f [] m = refl
keep_append f (x ∷ l) m = ap (λ t. cond (f x) (x ∷ []) [] ++ t) (keep_append f l m) ∙ sym (append_assoc (cond (f x) (x ∷ []) []) (keep f l) (keep f m))

pub kept_fewer : {A : Type 0} (f : A → Bool) (l : List A) → length (keep f l) ≤ length l
unfolding keep
kept_fewer f [] = omega arith
kept_fewer f (x ∷ l) = go (f x) (kept_fewer f l)
  where
    go : (t : Bool) → length (keep f l) ≤ length l → length (cond t (x ∷ []) [] ++ keep f l) ≤ suc (length l)
    go true h = omega arith
    go false h = omega arith

pub on_last_lem : {A : Type 0} (f : A → A) (l : List A) (x : A) → on_last f (l ++ (x ∷ [])) ≡ l ++ (f x ∷ [])
unfolding on_last
on_last_lem f [] x = refl
on_last_lem f (y ∷ []) x = refl
on_last_lem f (y ∷ z ∷ l) x = ap (λ t. y ∷ t) (on_last_lem f (z ∷ l) x)

pub among_append : (x : List ℕ) (l m : List (List ℕ)) → among x (l ++ m) ≡ (among x l || among x m)
unfolding among
among_append x [] m = refl
among_append x (y ∷ l) m = go (same x y) (among_append x l m)
  where
    go : (t : Bool) → among x (l ++ m) ≡ (among x l || among x m) → (t || among x (l ++ m)) ≡ ((t || among x l) || among x m)
    go true h = refl
    go false h = h

-- ---- lists that are mapped
pub map_map : {A B C : Type 0} (f : B → C) (h : A → C) (g : A → B) → ((x : A) → f (g x) ≡ h x) → (l : List A) → map f (map g l) ≡ map h l
map_map f h g e [] = refl
map_map f h g e (x ∷ l) = ap₂ ◌∷◌ (e x) (map_map f h g e l)

pub flat_map : {A B C : Type 0} (f : B → List C) (h : A → List C) (g : A → B) → ((x : A) → f (g x) ≡ h x) → (l : List A) → flat f (map g l) ≡ flat h l
unfolding flat
flat_map f h g e [] = refl
flat_map f h g e (x ∷ l) = ap₂ ◌++◌ (e x) (flat_map f h g e l)

pub all_map : {A B : Type 0} (f : B → Bool) (h : A → Bool) (g : A → B) → ((x : A) → f (g x) ≡ h x) → (l : List A) → all f (map g l) ≡ all h l
unfolding all
all_map f h g e [] = refl
all_map f h g e (x ∷ l) = ap₂ ◌&&◌ (e x) (all_map f h g e l)

kept :
    {A B : Type 0} (g : A → B) (x : A) (t u : Bool) (k : List B) (m : List A) → t ≡ u → k ≡ map g m
    → cond t (g x ∷ []) [] ++ k ≡ map g (cond u (x ∷ []) [] ++ m)
kept g x t true k m e q = rw e (ap (λ z. g x ∷ z) q)
kept g x t false k m e q = rw e q

pub keep_map :
    {A B : Type 0} (f : B → Bool) (h : A → Bool) (g : A → B) → ((x : A) → f (g x) ≡ h x) → (l : List A) → keep f (map g l) ≡ map g (keep h l)
unfolding keep
keep_map f h g e [] = refl
keep_map f h g e (x ∷ l) = kept g x (f (g x)) (h x) (keep f (map g l)) (keep h l) (e x) (keep_map f h g e l)

pub map_replicate : {A B : Type 0} (g : A → B) (n : ℕ) (x : A) → map g (replicate n x) ≡ replicate n (g x)
map_replicate g zero x = refl
map_replicate g (suc n) x = ap (λ z. g x ∷ z) (map_replicate g n x)

pub map_flat :
    {A B C : Type 0} (f : B → C) (g : A → List B) (h : A → List C) → ((x : A) → map f (g x) ≡ h x) → (l : List A) → map f (flat g l) ≡ flat h l
unfolding flat
map_flat f g h e [] = refl
map_flat f g h e (x ∷ l) = map-append f (g x) (flat g l) ∙ ap₂ ◌++◌ (e x) (map_flat f g h e l)

pub keep_same : {A : Type 0} (f h : A → Bool) → ((x : A) → f x ≡ h x) → (l : List A) → keep f l ≡ keep h l
unfolding keep
keep_same f h e [] = refl
keep_same f h e (x ∷ l) = ap₂ (λ t m. cond t (x ∷ []) [] ++ m) (e x) (keep_same f h e l)

pub optional_map :
    {A B C : Type 0} (f : B → C) (h : A → C) (g : A → B) → ((x : A) → f (g x) ≡ h x) → (o : Option A) → optional f (optional g o) ≡ optional h o
optional_map f h g e none = refl
optional_map f h g e (some x) = ap some (e x)

pub map_same : {A B : Type 0} (f h : A → B) → ((x : A) → f x ≡ h x) → (l : List A) → map f l ≡ map h l
map_same f h e [] = refl
map_same f h e (x ∷ l) = ap₂ ◌∷◌ (e x) (map_same f h e l)

pub map_joined : {A B C : Type 0} (g : B → C) (f : A → B) (l : List A) → map (λ x. g (f x)) l ≡ map g (map f l)
map_joined g f l = sym (map_map g (λ x. g (f x)) f (λ x. refl) l)

-- ---- tests over lists in pieces
pub all_append : {A : Type 0} (f : A → Bool) (l m : List A) → all f l ≡ true → all f m ≡ true → all f (l ++ m) ≡ true
unfolding all
all_append f [] m a b = b
all_append f (x ∷ l) m a b = both (f x) (all f (l ++ m)) (and_left (f x) (all f l) a) (all_append f l m (and_right (f x) (all f l) a) b)

-- ---- nothing in them
pub nil_front : {A : Type 0} (l m : List A) → l ++ m ≡ [] → l ≡ []
nil_front [] m e = refl
nil_front (x ∷ l) m e = let z : ◌≡◌ {A = ℕ} 0 1 = cc in absurd (omega arith)

pub nil_back : {A : Type 0} (l m : List A) → l ++ m ≡ [] → m ≡ []
nil_back [] m e = e
nil_back (x ∷ l) m e = let z : ◌≡◌ {A = ℕ} 0 1 = cc in absurd (omega arith)

pub flat_none : {A B : Type 0} (f : A → List B) (l : List A) → flat f l ≡ [] → Each (λ x. f x ≡ []) l
unfolding flat
flat_none f [] e = tt
flat_none f (x ∷ l) e = (nil_front (f x) (flat f l) e, flat_none f l (nil_back (f x) (flat f l) e))

-- nothing is due
pub not_due : (t : Bool) (i : ℕ) → due_at t i ≡ [] → t ≡ false
not_due true i e = let z : ◌≡◌ {A = ℕ} 0 1 = cc in absurd (omega arith)
not_due false i e = refl

-- nothing is shared with an empty list
pub shared_nothing : (l : List (List ℕ)) → shared l [] ≡ false
unfolding shared among
shared_nothing [] = refl
shared_nothing (x ∷ l) = shared_nothing l

-- ---- equality
same_is : (x y : List ℕ) → same x y ≡ true → x ≡ y
unfolding same
same_is [] [] e = refl
same_is [] (b ∷ y) e = absurd (false≢true e)
same_is (a ∷ x) [] e = absurd (false≢true e)
same_is (a ∷ x) (b ∷ y) e = ap₂ ◌∷◌ (eqb-true a b (and_left (eqb a b) (same x y) e)) (same_is x y (and_right (eqb a b) (same x y) e))

same_self : (x : List ℕ) → same x x ≡ true
unfolding same
same_self [] = refl
same_self (a ∷ x) = rw (eq-eqb a a refl) (same_self x)

pub same_law : (x y : List ℕ) → (same x y ≡ true) ↔ (x ≡ y)
same_law x y = (same_is x y, λ e. subst (λ z. same x z ≡ true) e (same_self x))

pub same_length : (x y : List ℕ) → (length x ≡ length y → ⊥) → same x y ≡ false
same_length x y h = falsely (same x y) (λ e. h (ap length ((same_law x y).0 e)))

-- in either case: of one length
pub folded_length : (x y : List ℕ) → same_folded x y ≡ true → length x ≡ length y
unfolding same_folded
folded_length [] [] e = refl
folded_length [] (b ∷ y) e = absurd (false≢true e)
folded_length (a ∷ x) [] e = absurd (false≢true e)
folded_length (a ∷ x) (b ∷ y) e = ap suc (folded_length x y (and_right (eqb (upper a) (upper b)) (same_folded x y) e))

-- nothing is in a list of no length
pub no_length : {A : Type 0} (l : List A) → length l ≡ 0 → l ≡ []
no_length [] e = refl
no_length (x ∷ l) e = absurd (omega (arith, e))
