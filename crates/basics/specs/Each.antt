-- What holds of each element of a list, of some element, of each and those behind it, and of a value where there is one.
use Rattle.std.specs.Prelude.{◌≡◌, refl, ◌⊎◌, Bool, cond, length, replicate}
use Rattle.std.proofs.Common.{sym, subst, inl, inr, arith}
use Rattle.std.proofs.Math.Bool.{true, false}
use Rattle.std.proofs.Math.Option.{Option, none, some}
use mathlib.Core.List.{List, [], ◌∷◌, ◌++◌, map}
use Prim.Native.Nat.{ℕ, zero, suc, ◌+◌, ◌-◌, ◌<◌}
use Rattle.scope.specs.Lists.{keep, padded, on_last, tabled}

abbrev pub Each : {A : Type 0} → (A → Type 0) → List A → Type 0
Each Q [] = Unit {0}
Each Q (x ∷ l) = Q x × Each Q l

abbrev pub Some : {A : Type 0} → (A → Type 0) → List A → Type 0
Some Q [] = ⊥
Some Q (x ∷ l) = Q x ⊎ Some Q l

-- x stands in the list
abbrev pub In : {A : Type 0} → A → List A → Type 0
In x l = Some (λ y. x ≡ y) l

-- each in the relation R to all behind it
abbrev pub Ordered : {A : Type 0} → (A → A → Type 0) → List A → Type 0
Ordered R [] = Unit {0}
Ordered {A} R (x ∷ l) = ((y : A) → In y l → R x y) × Ordered R l

-- x is none of these numbers: what the last arm of a match tells, the last number first
abbrev pub NoneOf : List ℕ → ℕ → Type 0
NoneOf [] x = Unit {0}
NoneOf (k ∷ ks) x = NoneOf ks x × (x ≡ k → ⊥)

-- of the value, where there is one
abbrev pub OfGiven : {A : Type 0} → (A → Type 0) → Option A → Type 0
OfGiven Q none = Unit {0}
OfGiven Q (some x) = Q x

-- there is one
abbrev pub IsGiven : {A : Type 0} → Option A → Type 0
IsGiven none = ⊥
IsGiven (some x) = Unit {0}

-- ---- lists in pieces, and lists that are made
module _ {A : Type 0} (Q : A → Type 0) where
  pub each_append : (l m : List A) → Each Q l → Each Q m → Each Q (l ++ m)
  each_append [] m h e = e
  each_append (x ∷ l) m h e = (h.0, each_append l m h.1 e)

  pub each_front : (l m : List A) → Each Q (l ++ m) → Each Q l
  each_front [] m h = tt
  each_front (x ∷ l) m h = (h.0, each_front l m h.1)

  pub each_back : (l m : List A) → Each Q (l ++ m) → Each Q m
  each_back [] m h = h
  each_back (x ∷ l) m h = each_back l m h.1

  pub each_snoc : (l : List A) (x : A) → Each Q l → Q x → Each Q (l ++ (x ∷ []))
  each_snoc l x h q = each_append l (x ∷ []) h (q, tt)

  pub each_all : (l : List A) → ((x : A) → Q x) → Each Q l
  each_all [] h = tt
  each_all (x ∷ l) h = (h x, each_all l h)

  pub each_map : {B : Type 0} (f : B → A) (l : List B) → Each (λ x. Q (f x)) l → Each Q (map f l)
  each_map f [] h = tt
  each_map f (x ∷ l) h = (h.0, each_map f l h.1)

  pub each_last : (f : A → A) → ((x : A) → Q x → Q (f x)) → (l : List A) → Each Q l → Each Q (on_last f l)
  unfolding on_last
  each_last f h [] p = tt
  each_last f h (x ∷ []) p = (h x p.0, tt)
  each_last f h (x ∷ y ∷ l) p = (p.0, each_last f h (y ∷ l) p.1)

  pub each_keep : (f : A → Bool) (l : List A) → Each Q l → Each Q (keep f l)
  unfolding keep
  each_keep f [] h = tt
  each_keep f (x ∷ l) h = go (f x) (each_keep f l h.1)
    where
      go : (t : Bool) → Each Q (keep f l) → Each Q (cond t (x ∷ []) [] ++ keep f l)
      go true r = (h.0, r)
      go false r = r

  pub each_replicate : (n : ℕ) (z : A) → Q z → Each Q (replicate n z)
  each_replicate zero z h = tt
  each_replicate (suc n) z h = (h, each_replicate n z h)

  pub each_padded : (z : A) (n : ℕ) (l : List A) → Q z → Each Q l → Each Q (padded z n l)
  each_padded z n l q h = each_append l (replicate (n - length l) z) h (each_replicate (n - length l) z q)

  pub each_tabled : (f : ℕ → A) (j n : ℕ) → ((i : ℕ) → i < j + n → Q (f i)) → Each Q (tabled f j n)
  unfolding tabled
  each_tabled f j zero h = tt
  each_tabled f j (suc n) h = (h j (omega arith), each_tabled f (j + 1) n (λ i q. h i (omega arith)))

  -- what holds of each holds of whatever stands in the list
  pub each_in : (l : List A) (x : A) → In x l → Each Q l → Q x
  each_in [] x m h = elim m [ ]
  each_in (y ∷ l) x (inl e) h = subst Q (sym e) h.0
  each_in (y ∷ l) x (inr m) h = each_in l x m h.1

  pub in_each : (l : List A) → ((x : A) → In x l → Q x) → Each Q l
  in_each [] f = tt
  in_each (x ∷ l) f = (f x (inl refl), in_each l (λ y m. f y (inr m)))

-- ---- what follows from one, two or three facts of each
pub each_one : {A : Type 0} (Q S : A → Type 0) → ((x : A) → Q x → S x) → (l : List A) → Each Q l → Each S l
each_one Q S f [] a = tt
each_one Q S f (x ∷ l) a = (f x a.0, each_one Q S f l a.1)

pub each_two : {A : Type 0} (Q T S : A → Type 0) → ((x : A) → Q x → T x → S x) → (l : List A) → Each Q l → Each T l → Each S l
each_two Q T S f [] a b = tt
each_two Q T S f (x ∷ l) a b = (f x a.0 b.0, each_two Q T S f l a.1 b.1)

pub each_three : {A : Type 0} (Q T W S : A → Type 0) → ((x : A) → Q x → T x → W x → S x) → (l : List A) → Each Q l → Each T l → Each W l → Each S l
each_three Q T W S f [] a b c = tt
each_three Q T W S f (x ∷ l) a b c = (f x a.0 b.0 c.0, each_three Q T W S f l a.1 b.1 c.1)

-- of each image, from what holds of each
pub each_through :
    {A B : Type 0} (Q : A → Type 0) (R : B → Type 0) (f : B → A) → ((x : B) → R x → Q (f x)) → (l : List B) → Each R l → Each Q (map f l)
each_through Q R f h l p = each_map Q f l (each_one R (λ x. Q (f x)) h l p)

-- ---- tests
-- what fails a test: a rule is stated as "nothing fails", so that a check that refuses it names what does
abbrev pub failing : {A : Type 0} → (A → Bool) → List A → List A
failing T [] = []
failing T (x ∷ l) = cond (T x) [] (x ∷ []) ++ failing T l

pub first_passes : {A : Type 0} (T : A → Bool) (x : A) (l : List A) → failing T (x ∷ l) ≡ [] → (T x ≡ true) × (failing T l ≡ [])
first_passes T x l e = go (T x) e
  where
    go : (t : Bool) → (cond t [] (x ∷ []) ++ failing T l) ≡ [] → (t ≡ true) × (failing T l ≡ [])
    go true f = (refl, f)
    go false f = let z : ◌≡◌ {A = ℕ} 0 1 = cc in absurd (omega arith)
