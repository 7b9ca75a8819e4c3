-- Lists and values that may be missing: the small functions that the other definitions share.
use Rattle.std.specs.Prelude.{ℕ, zero, suc, ◌+◌, ◌-◌, Bool, true, false, cond, ◌&&◌, ◌||◌, List, [], ◌∷◌, ◌++◌, eqb, length, take, drop, replicate}
use Rattle.std.proofs.Math.Option.{Option, none, some}

-- ---- a value that may be missing
-- the value, where there is one
abbrev pub given : {A B : Type 0} → Option A → (A → B) → B → B
given (some x) f y = f x
given none f y = y

-- there is a value
abbrev pub there? : {A : Type 0} → Option A → Bool
there? none = false
there? (some x) = true

-- f of the value, where there is one
abbrev pub optional : {A B : Type 0} → (A → B) → Option A → Option B
optional f none = none
optional f (some x) = some (f x)

-- ---- tests
-- there is nothing
abbrev pub none? : {A : Type 0} → List A → Bool
none? [] = true
none? (x ∷ l) = false

-- every element passes
unfoldable pub all : {A : Type 0} → (A → Bool) → List A → Bool
all f [] = true
all f (x ∷ l) = f x && all f l

-- x is among the numbers
unfoldable pub member : ℕ → List ℕ → Bool
member x [] = false
member x (y ∷ l) = eqb x y || member x l

-- "compared byte for byte"
unfoldable pub same : List ℕ → List ℕ → Bool
same [] [] = true
same [] (y ∷ m) = false
same (x ∷ l) [] = false
same (x ∷ l) (y ∷ m) = eqb x y && same l m

-- x is among the names
unfoldable pub among : List ℕ → List (List ℕ) → Bool
among x [] = false
among x (y ∷ l) = same x y || among x l

-- one of the names is among the others
unfoldable pub shared : List (List ℕ) → List (List ℕ) → Bool
shared [] others = false
shared (x ∷ l) others = among x others || shared l others

-- ---- parts and changes
-- the elements that a test keeps, in order
unfoldable pub keep : {A : Type 0} → (A → Bool) → List A → List A
keep f [] = []
keep f (x ∷ l) = cond (f x) (x ∷ []) [] ++ keep f l

-- what every element gives, in order
unfoldable pub flat : {A B : Type 0} → (A → List B) → List A → List B
flat f [] = []
flat f (x ∷ l) = f x ++ flat f l

-- the first element, where there is one
abbrev pub first_in : {A : Type 0} → List A → Option A
first_in [] = none
first_in (x ∷ l) = some x

-- the last element changed by f
unfoldable pub on_last : {A : Type 0} → (A → A) → List A → List A
on_last f [] = []
on_last f (x ∷ []) = f x ∷ []
on_last f (x ∷ y ∷ l) = x ∷ on_last f (y ∷ l)

-- so many elements from a place on
abbrev pub part : {A : Type 0} → ℕ → ℕ → List A → List A
part at n l = take n (drop at l)

-- f at i, i + 1, .., for n places
unfoldable pub tabled : {A : Type 0} → (ℕ → A) → ℕ → ℕ → List A
tabled f i zero = []
tabled f i (suc n) = f i ∷ tabled f (i + 1) n

-- "unused room is zero"
abbrev pub padded : {A : Type 0} → A → ℕ → List A → List A
padded z n l = l ++ replicate (n - length l) z

-- "Success leaves output past the written bytes .. unchanged": an area that begins with l now
abbrev pub laid : {A : Type 0} → List A → List A → List A
laid l old = l ++ drop (length l) old
