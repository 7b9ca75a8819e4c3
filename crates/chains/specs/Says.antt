-- What is answered of the blocks of an entry.
use Rattle.std.specs.Prelude.{ℕ, ◌<◌, ◌≡◌, List, [], ◌∷◌, take, Option, Some, None}
use Rattle.std.proofs.Math.Option.{some}
use Rattle.basics.specs.Each.{Each}
use Rattle.blocks.specs.Block.{block_kind}
use Rattle.blocks.specs.Area.{blocks_in, block_at}
use Rattle.blocks.specs.Chain.{follow}
use Rattle.blocks.specs.Entry.{damaged, starting_at}
use Rattle.chains.specs.declared.borrowed.Chain.{Chain}
use Rattle.chains.specs.declared.Firsts.{Firsts}
use Rattle.chains.specs.declared.Firsts.TheVariants.{Nothing, One, Several}

-- none, one or several
abbrev pub how_many : List ℕ → Firsts
how_many [] = Nothing
how_many (b ∷ []) = One b
how_many (b ∷ c ∷ l) = Several

-- a chain of `many` blocks was gathered, and `long` bytes of content
pub record GatheredSays (a : List ℕ) (number first many long : ℕ) (blocks content : List ℕ) : Type 0 where
  pub chain : follow (blocks_in a) a number (block_kind (block_at a first)) first ≡ some (record { blocks = take many blocks; content = take long content })
  pub inside : Each (λ b. b < blocks_in a) (take many blocks)

-- the same; or there is no entry as stated
abbrev pub Gathers : List ℕ → ℕ → ℕ → Option Chain → List ℕ → Type 0
Gathers a number first None content = starting_at a number first ≡ damaged
Gathers a number first (Some c) content = GatheredSays a number first c.many c.long c.row content
