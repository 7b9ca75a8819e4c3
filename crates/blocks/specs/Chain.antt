-- The chain of an entry: its blocks, and their content in a row.
use Rattle.std.specs.Prelude.{ℕ, zero, suc, Bool, cond, ◌&&◌, ◌||◌, List, [], ◌∷◌, ◌++◌, eqb}
use Rattle.std.proofs.Math.Option.{Option, none, some}
use Rattle.scope.specs.Lists.{optional}
use Rattle.blocks.specs.Block.{content_room, further_kind, block_kind, used_length, next_block, content_in, is_last, is_padded}
use Rattle.blocks.specs.Area.{block_at, carries}

pub record Chain : Type 0 where
  pub blocks : List ℕ
  pub content : List ℕ

-- block b may stand in the chain of an entry: 25 "an unsound block, a wrong kind or number .. or content other than stated"; "zero past the used length", "every
-- block but an entry's last full"
unfoldable pub links : List ℕ → ℕ → ℕ → ℕ → Bool
links a number kind b =
    eqb (block_kind (block_at a b)) kind && carries a number b && is_padded (block_at a b)
    && (is_last (block_at a b) || eqb (used_length (block_at a b)) content_room)

-- a block before a chain, and a block alone
abbrev pub before : ℕ → List ℕ → Chain → Chain
before b x t = record { blocks = b ∷ t.blocks; content = content_in x ++ t.content }

abbrev pub alone : ℕ → List ℕ → Chain
alone b x = record { blocks = b ∷ []; content = content_in x }

-- the chain from block b on, of at most so many blocks: one of more blocks than the area has would meet "a block twice"
unfoldable pub follow : ℕ → List ℕ → ℕ → ℕ → ℕ → Option Chain
follow zero a number kind b = none
follow (suc n) a number kind b =
    cond (links a number kind b)
    (cond (is_last (block_at a b)) (some (alone b (block_at a b)))
    (optional (before b (block_at a b)) (follow n a number further_kind (next_block (block_at a b)))))
    none
