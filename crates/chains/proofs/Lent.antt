-- A block of an area of whole blocks: where its bytes are, and how many. Assumes nothing.
use Rattle.std.proofs.Common.{◌≡◌, ap, ◌∙◌, List, ℕ, ◌+◌, ◌-◌, ◌*◌, ◌≤◌, ◌<◌, length, take, drop, mul_comm, length-drop, length-take-le, arith}
use Rattle.std.proofs.lemmas.List.{take-take}
use Rattle.scope.specs.Limits.{block_size}
use Rattle.scope.specs.Lists.{part}
use Rattle.blocks.specs.Block.{content_at, content_room}
use Rattle.blocks.specs.Area.{block_at}
use Rattle.area_laws.specs.Areas.{block_length}
use Rattle.chains.specs.Whole.{Whole}

pub block_long : {a : List ℕ} {n b : ℕ} → Whole a n → b < n → length (block_at a b) ≡ block_size
block_long {a} {n} {b} w h = block_length a n b w.long h

-- the bytes from its place on, as many as a block has
pub block_first : (a : List ℕ) (b : ℕ) → take block_size (take (b * block_size + block_size - b * block_size) (drop (b * block_size) a)) ≡ block_at a b
unfolding block_at
block_first a b =
    take-take block_size (b * block_size + block_size - b * block_size) (drop (b * block_size) a) (omega arith) ∙ ap (λ i. take block_size (drop i a)) (mul_comm b block_size)

-- as many bytes of its content as are asked for
pub content_long : {a : List ℕ} {n b : ℕ} → Whole a n → b < n → (m : ℕ) → m ≤ content_room → length (part content_at m (block_at a b)) ≡ m
content_long {a} {n} {b} w h m few = length-take-le m (drop content_at (block_at a b)) (omega (arith, block_long w h, length-drop content_at (block_at a b)))
