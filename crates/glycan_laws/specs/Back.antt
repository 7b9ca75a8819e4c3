-- Compositions read from the right. There a listed name that another one ends with is told apart by the byte before it, which ends no name and is
-- no digit: `Hex` in `dHex`, `aHex` and `en,aHex`, `aHex` in `en,aHex`. So the longest listed name that ends a text is the last one of every cutting.
use Rattle.std.specs.Prelude.{ℕ, zero, suc, ◌≡◌, ◌⊎◌, Bool, true, false, not, cond, ◌&&◌, ◌||◌, List, [], ◌∷◌, map, reverse, eqb}
use Rattle.std.proofs.Math.Option.{Option, none, some}
use Rattle.scope.specs.Bytes.{upper, is_digit}
use Rattle.scope.specs.Glycans.{name_at}

-- ---- the names from the right, in upper case, a longer one before those that it ends with
pub record Backward : Type 0 where
  pub index : ℕ
  pub letters : List ℕ

unfoldable pub backwards : List ℕ → List Backward
backwards [] = []
backwards (i ∷ is) = record { index = i; letters = reverse (map upper (name_at i)) } ∷ backwards is

-- the numbers of the names in the order in which they are tried: `en,aHex`, `aHex`, `dHex` before `Hex`
abbrev pub order : List ℕ
order = 9 ∷ 8 ∷ 7 ∷ 0 ∷ 1 ∷ 2 ∷ 3 ∷ 4 ∷ 5 ∷ 6 ∷ 10 ∷ 11 ∷ 12 ∷ 13 ∷ 14 ∷ 15 ∷ 16 ∷ 17 ∷ 18 ∷ 19 ∷ 20 ∷ 21 ∷ 22 ∷ 23 ∷ []

unfoldable pub tried : List Backward
tried = backwards order

-- ---- what may follow a name, from the right: nothing, or a byte that ends a name or a count
abbrev pub begins : ℕ → List ℕ → Bool
begins b [] = false
begins b (x ∷ n) = eqb x b

unfoldable pub begins_one : ℕ → List Backward → Bool
begins_one b [] = false
begins_one b (n ∷ ns) = begins b n.letters || begins_one b ns

abbrev pub is_starter : ℕ → Bool
is_starter b = is_digit b || begins_one b tried

abbrev pub StartsWell : List ℕ → Type 0
StartsWell [] = Unit {0}
StartsWell (b ∷ t) = is_starter b ≡ true

-- ---- a text begins with a name
unfoldable pub is_front : List ℕ → List ℕ → Bool
is_front [] t = true
is_front (x ∷ n) [] = false
is_front (x ∷ n) (y ∷ t) = eqb x y && is_front n t

-- n, tried before m, may be found where m stands: it is a front of m, or m a front of it and what follows there is a byte that may follow a name
unfoldable pub hides : List ℕ → List ℕ → Bool
hides [] m = true
hides (x ∷ n) [] = is_starter x
hides (x ∷ n) (y ∷ m) = eqb x y && hides n m

-- ---- the first of the names with which a text begins
unfoldable pub first_front : List Backward → List ℕ → Option Backward
first_front [] t = none
first_front (n ∷ ns) t = cond (is_front n.letters t) (some n) (first_front ns t)

-- no name hides a later one
unfoldable pub hides_none : List ℕ → List Backward → Bool
hides_none n [] = true
hides_none n (m ∷ ms) = not (hides n m.letters) && hides_none n ms

unfoldable pub apart : List Backward → Bool
apart [] = true
apart (n ∷ ns) = hides_none n.letters ns && apart ns

-- ---- each listed name is found where it stands
unfoldable pub backward : ℕ → Backward
backward i = record { index = i; letters = reverse (map upper (name_at i)) }

abbrev pub Among : Backward → List Backward → Type 0
Among n [] = ⊥
Among n (m ∷ ms) = (n ≡ m) ⊎ Among n ms

-- a test of each number below one
unfoldable pub all_below : (ℕ → Bool) → ℕ → Bool
all_below f zero = true
all_below f (suc n) = f n && all_below f n
