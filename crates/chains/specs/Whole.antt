-- Areas of whole blocks, and the next of them that passes a test.
use Rattle.std.specs.Prelude.{ℕ, ◌*◌, ◌≤◌, ◌<◌, ◌≡◌, Bool, true, false, ◌&&◌, List, length, Option, MatchOption}
use Rattle.scope.specs.Limits.{block_size, block_limit}
use Rattle.blocks.specs.Block.{block_kind, is_first}
use Rattle.blocks.specs.Area.{blocks_in, block_at, carries}

-- 1 to 128 whole blocks, n of them
pub record Whole (a : List ℕ) (n : ℕ) : Type 0 where
  pub long : length a ≡ block_size * n
  pub many : blocks_in a ≡ n
  pub some : 1 ≤ n
  pub few : n ≤ block_limit

-- block b is a sound first block of the entry
abbrev pub is_first_of : List ℕ → ℕ → ℕ → Bool
is_first_of a number b = is_first (block_kind (block_at a b)) && carries a number b

-- of n, the first from one on that passes a test, if one does
abbrev pub FirstOf : (ℕ → Bool) → ℕ → ℕ → Option ℕ → Type 0
FirstOf test n from r =
    MatchOption r ((c : ℕ) → from ≤ c → c < n → test c ≡ false) (λ b. (from ≤ b) × (b < n) × (test b ≡ true) × ((c : ℕ) → from ≤ c → c < b → test c ≡ false))
