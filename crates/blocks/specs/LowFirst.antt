-- Numbers in bytes, "low bytes first".
use Rattle.std.specs.Prelude.{ℕ, zero, suc, ◌+◌, ◌*◌, ◌/◌, ◌%◌, List, [], ◌∷◌}
use Rattle.scope.specs.Bytes.{byte_limit}

-- the number that bytes stand for
unfoldable pub little : List ℕ → ℕ
little [] = 0
little (b ∷ l) = b + byte_limit * little l

-- a number in so many bytes
unfoldable pub low_first : ℕ → ℕ → List ℕ
low_first zero n = []
low_first (suc w) n = n % byte_limit ∷ low_first w (n / byte_limit)
