-- What `cond` and `given` give where the test is known, and what holds of them by cases of it.
use Rattle.std.specs.Prelude.{◌≡◌, refl, Bool, true, false, cond, ◌&&◌, ◌||◌}
use Rattle.std.proofs.Common.{sym, ap, ◌∙◌, eq-eqb, ne_eqb, lt-ltb, le-ltb, le-leb}
use Rattle.std.proofs.Math.Option.{Option, none, some}
use Rattle.std.proofs.lemmas.Bool.{lt-leb}
use Rattle.scope.specs.Lists.{given, optional}
use Rattle.basics.specs.Tests.{or_first, or_second, neither}

-- ---- the test is known
pub pick_true : {A : Type 0} (t : Bool) (x y : A) → t ≡ true → cond t x y ≡ x
pick_true t x y e = ap (λ z. cond z x y) e

pub pick_false : {A : Type 0} (t : Bool) (x y : A) → t ≡ false → cond t x y ≡ y
pick_false t x y e = ap (λ z. cond z x y) e

pub pick_some : {A B : Type 0} (o : Option A) (f : A → B) (y : B) (x : A) → o ≡ some x → given o f y ≡ f x
pick_some o f y x e = ap (λ z. given z f y) e

pub pick_none : {A B : Type 0} (o : Option A) (f : A → B) (y : B) → o ≡ none → given o f y ≡ y
pick_none o f y e = ap (λ z. given z f y) e

pub took : {A : Type 0} (t : Bool) (a b : A) → t ≡ true → a ≡ cond t a b
took t a b e = sym (pick_true t a b e)

pub passed : {A : Type 0} (t : Bool) (a b y : A) → t ≡ false → y ≡ b → y ≡ cond t a b
passed t a b y e p = p ∙ sym (pick_false t a b e)

-- ---- a cascade of tests, answered test by test: what `search steps` tries
-- the first test decides, or what is behind it
pub at_once : {A : Type 0} (t : Bool) (x a b : A) → t ≡ true → x ≡ a → x ≡ cond t a b
at_once t x a b e p = p ∙ took t a b e

pub later : {A : Type 0} (t : Bool) (x a b : A) → t ≡ false → x ≡ b → x ≡ cond t a b
later t x a b e p = passed t a b x e p

pub and_at_once : (t b : Bool) → t ≡ false → false ≡ (t && b)
and_at_once t b e = ap (λ z. z && b) (sym e)

pub and_later : (t x b : Bool) → t ≡ true → x ≡ b → x ≡ (t && b)
and_later t x b e p = p ∙ ap (λ z. z && b) (sym e)

pub or_at_once : (t b : Bool) → t ≡ true → true ≡ (t || b)
or_at_once t b e = ap (λ z. z || b) (sym e)

pub or_later : (t x b : Bool) → t ≡ false → x ≡ b → x ≡ (t || b)
or_later t x b e p = p ∙ ap (λ z. z || b) (sym e)

-- a callee has answered the test
pub told_so : {x t y : Bool} → x ≡ t → x ≡ y → t ≡ y
told_so p q = sym p ∙ q

pub ruleset steps =
    (at_once, later, and_at_once, and_later, or_at_once, or_later, or_first, or_second, neither, told_so, eq-eqb, ne_eqb, lt-ltb, le-ltb, le-leb, lt-leb)

-- ---- by cases: a test holds or not
pub by_test : {A : Type 0} (t : Bool) → (t ≡ true → A) → (t ≡ false → A) → A
by_test true f g = f refl
by_test false f g = g refl

-- what holds of both branches
pub branch : {A : Type 0} (Q : A → Type 0) (t : Bool) {x y : A} → Q x → Q y → Q (cond t x y)
branch Q true p q = p
branch Q false p q = q

-- the same, each under its test
pub branch_on : {A : Type 0} (Q : A → Type 0) (t : Bool) {x y : A} → (t ≡ true → Q x) → (t ≡ false → Q y) → Q (cond t x y)
branch_on Q true p q = p refl
branch_on Q false p q = q refl

pub on_given : {A B : Type 0} (Q : B → Type 0) (o : Option A) {f : A → B} {y : B} → ((x : A) → o ≡ some x → Q (f x)) → Q y → Q (given o f y)
on_given Q (some x) p q = p x refl
on_given Q none p q = q

pub given_on : {A B : Type 0} (Q : B → Type 0) (o : Option A) {f : A → B} {y : B} → ((x : A) → o ≡ some x → Q (f x)) → (o ≡ none → Q y) → Q (given o f y)
given_on Q (some x) p q = p x refl
given_on Q none p q = q refl

-- a function of what the branches give
pub through : {A B : Type 0} (g : A → B) (t : Bool) {x y : A} {x' y' : B} → g x ≡ x' → g y ≡ y' → g (cond t x y) ≡ cond t x' y'
through g true p q = p
through g false p q = q

pub through_given : {A B C : Type 0} (g : B → C) (o : Option A) {h : A → B} {h' : A → C} {y : B} {y' : C}
    → ((x : A) → g (h x) ≡ h' x) → g y ≡ y' → g (given o h y) ≡ given o h' y'
through_given g (some x) p q = p x
through_given g none p q = q

-- the same, where the value is changed too
pub through_both : {A B C D : Type 0} (g : B → C) (u : A → D) (h' : D → C) (o : Option A) {h : A → B} {y : B} {y' : C}
    → ((x : A) → g (h x) ≡ h' (u x)) → g y ≡ y' → g (given o h y) ≡ given (optional u o) h' y'
through_both g u h' (some x) p q = p x
through_both g u h' none p q = q
