-- Lists with one element more at their end.
use mathlib.Core.Path.{◌≡◌, refl}
use mathlib.Core.Bool.{Bool, true, false, cond, not, ◌&&◌}
use mathlib.Core.Option.{Option, none, some}
use mathlib.Core.List.{List, [], ◌∷◌, ◌++◌}
use Prim.Native.Nat.{ℕ, ◌+◌, ◌≤◌, ◌<◌}
use native.Mathlib.Omega.{arith}
use borrow.Author.Tests.{eq-eqb, ne_eqb, leb-true, leb-false}
use lib.Dec.{eqb, leb}
use lib.ListN.{length, take, drop, length-append, drop_of_length-le}
use lib.Seq.{drop-append-le, take-append-le, take_all}
use Rattle.basics.specs.Choice.{by_test}
use Rattle.scope.specs.Line.{Number, Label, Part}
use Rattle.scope.specs.Lists.{given, none?, flat, all}
use Rattle.scope.specs.Content.{is_reference}
use Rattle.scope.specs.Modifications.{name_of}
use Rattle.scope.specs.Refusals.{due_at}
use Rattle.scope.specs.Reading.{refers?}
use Rattle.scope.specs.Tables.{score_of}

module _ {A : Type 0} where
  pub length_snoc : (l : List A) (x : A) → length (l ++ (x ∷ [])) ≡ length l + 1
  length_snoc l x = length-append l (x ∷ [])

  pub all_snoc : (f : A → Bool) (l : List A) (x : A) → all f (l ++ (x ∷ [])) ≡ (all f l && f x)
  unfolding all
  all_snoc f [] x = go (f x)
    where
      go : (t : Bool) → (t && true) ≡ t
      go true = refl
      go false = refl
  all_snoc f (y ∷ l) x = go (f y) (all_snoc f l x)
    where
      go : (t : Bool) → all f (l ++ (x ∷ [])) ≡ (all f l && f x) → (t && all f (l ++ (x ∷ []))) ≡ (t && all f l && f x)
      go true e = e
      go false e = refl

  -- the first n, where there are fewer, and where there are as many
  pub take_few : (n : ℕ) (l : List A) (x : A) → length l < n → take n (l ++ (x ∷ [])) ≡ l ++ (x ∷ [])
  take_few n l x h = take_all n (l ++ (x ∷ [])) (omega (arith, length_snoc l x))

  pub take_many : (n : ℕ) (l : List A) (x : A) → n ≤ length l → take n (l ++ (x ∷ [])) ≡ take n l
  take_many n l x h = take-append-le n l (x ∷ []) h

-- what is left behind n: with the element, where there are as many
pub drop_snoc : (n : ℕ) (l : List ℕ) (x : ℕ) → drop n (l ++ (x ∷ [])) ≡ drop n l ++ due_at (leb n (length l)) x
drop_snoc n l x =
    by_test (leb n (length l))
    (λ t. rw t (drop-append-le n l (x ∷ []) (leb-true n (length l) t)))
    (λ t. let h = leb-false n (length l) t in
    let a : length (l ++ (x ∷ [])) ≤ n = omega (arith, length-append l (x ∷ [])) in
    rw (t, drop_of_length-le l {i = n} (omega arith), drop_of_length-le (l ++ (x ∷ [])) {i = n} a))

-- ---- parts
pub refers_snoc : (ps : List (Part ℕ)) (q : Part ℕ) (n : ℕ) → n ≡ length ps → refers? (ps ++ (q ∷ [])) ≡ cond (eqb n 0) (is_reference q.value) (refers? ps)
refers_snoc [] q n e = rw (eq-eqb n 0 e)
refers_snoc (p ∷ ps) q n e = rw (ne_eqb n 0 (λ z. absurd (omega arith)))

one_name : (q : Part ℕ) → length (name_of q) ≤ 1
one_name q = go q.label
  where
    go : (l : Option (Label ℕ)) → length (given l (λ x. x.name ∷ []) []) ≤ 1
    go none = omega arith
    go (some l) = omega arith

-- at most one label to a part
pub few_names : (ps : List (Part ℕ)) → length (flat name_of ps) ≤ length ps
unfolding flat
few_names [] = omega arith
few_names (p ∷ ps) = let a = one_name p in let b = few_names ps in omega (arith, length-append (name_of p) (flat name_of ps), a, b)

-- the score of the first label that has one
pub given_some : (x : Option (Number ℕ)) → given x some none ≡ x
given_some none = refl
given_some (some y) = refl

pub score_snoc : (ps : List (Part ℕ)) (q : Part ℕ) → score_of (ps ++ (q ∷ [])) ≡ given (score_of ps) some (given q.label (λ x. x.score) none)
unfolding score_of
score_snoc [] q = go q.label
  where
    go : (l : Option (Label ℕ)) → given l (λ x. given x.score some none) none ≡ given l (λ x. x.score) none
    go none = refl
    go (some x) = given_some x.score
score_snoc (p ∷ ps) q = go p.label (score_snoc ps q)
  where
    z : Option (Number ℕ)
    z = given q.label (λ x. x.score) none

    score : (s : Option (Number ℕ)) → score_of (ps ++ (q ∷ [])) ≡ given (score_of ps) some z → given s some (score_of (ps ++ (q ∷ []))) ≡ given (given s some (score_of ps)) some z
    score none e = e
    score (some n) e = refl

    go : (l : Option (Label ℕ)) → score_of (ps ++ (q ∷ [])) ≡ given (score_of ps) some z
        → given l (λ x. given x.score some (score_of (ps ++ (q ∷ [])))) (score_of (ps ++ (q ∷ []))) ≡ given (given l (λ x. given x.score some (score_of ps)) (score_of ps)) some z
    go none e = e
    go (some x) e = score x.score e

pub none_long : {A : Type 0} (l : List A) (n : ℕ) → n ≡ length l → ◌≡◌ {A = ℕ} (cond (eqb n 0) 1 2) (cond (not (none? l)) 2 1)
none_long [] n e = rw (eq-eqb n 0 e)
none_long (x ∷ l) n e = rw (ne_eqb n 0 (λ z. absurd (omega arith)))
