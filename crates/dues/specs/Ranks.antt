-- The first refusal due as one number: its rank in the order of trying, then the place.
use Rattle.std.specs.Prelude.{cond, List, [], ◌∷◌, ◌++◌, map, ℕ, ◌+◌, ◌*◌, ◌/◌, ◌%◌, min, ltb, length, get_or}
use Rattle.scope.specs.Bytes.{wide_limit}
use Rattle.scope.specs.Refusals.{Due, Outcome, refused}

abbrev pub code : ℕ → ℕ → ℕ
code rank place = rank * wide_limit + place

-- the codes of all places of refusals in the order of trying, the first of them with this rank
unfoldable pub codes : ℕ → List Due → List ℕ
codes rank [] = []
codes rank (r ∷ rs) = map (code rank) r.places ++ codes (rank + 1) rs

-- the lowest of some codes, or n
unfoldable pub lowest : ℕ → List ℕ → ℕ
lowest n [] = n
lowest n (c ∷ cs) = min c (lowest n cs)

-- above every code of these: none is due
abbrev pub no_code : List Due → ℕ
no_code rs = code (length rs) 0

abbrev pub number_at : List Due → ℕ → ℕ
number_at rs rank = get_or (map (λ r. r.number) rs) rank 0

-- what the lowest code says: the number of the refusal, and the place; or what is given where none is due
abbrev pub decoded : List Due → ℕ → Outcome → Outcome
decoded rs c o = cond (ltb c (no_code rs)) (refused (number_at rs (c / wide_limit)) (c % wide_limit)) o
