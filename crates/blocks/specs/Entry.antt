-- An entry, and what an area holds under an entry's number: every call goes by `look`.
use Rattle.std.specs.Prelude.{ℕ, Bool, false, cond, ◌&&◌, List, [], ◌∷◌, ◌++◌, take, drop}
use Rattle.std.proofs.Math.Option.{Option, none, some}
use Rattle.scope.specs.Lists.{same, given}
use Rattle.scope.specs.Line.{Line}
use Rattle.scope.specs.Refusals.{Outcome, accepted, refused, outcome}
use Rattle.scope.specs.Canonical.{canonical}
use Rattle.scope.specs.Positions.{floating_of}
use Rattle.scope.specs.Placements.{allowed}
use Rattle.scope.specs.Answers.{Said, good, refuses}
use Rattle.blocks.specs.Block.{block_kind}
use Rattle.blocks.specs.Area.{blocks_in, block_at, all_sound, firsts}
use Rattle.blocks.specs.Chain.{Chain, follow}

-- ---- "one chosen allowed placement as eight position bytes, then the canonical line"
pub record Entry : Type 0 where
  pub placement : List ℕ
  pub line : List ℕ

-- "eight position bytes": behind a first block of each kind, how many bytes the placement has
abbrev pub position_bytes : ℕ → ℕ
position_bytes kind = 8

-- the placement in these bytes, and the bytes of a placement as adding writes them
abbrev pub placement_in : ℕ → List ℕ → List ℕ
placement_in kind c = take (position_bytes kind) c

abbrev pub line_in : ℕ → List ℕ → List ℕ
line_in kind c = drop (position_bytes kind) c

abbrev pub positions_of : List ℕ → List ℕ
positions_of p = p

-- the content of a line's entry under a placement; before it "the line's own refusals and 18"
abbrev pub content_for : Outcome → List ℕ → Said (List ℕ)
content_for (accepted l) p = cond (allowed (floating_of l) p) (good (positions_of p ++ canonical l)) (refuses 18 0)
content_for (refused number place) p = refuses number place

-- the entry in a content, where it is as stated: a line that is its own canonical line, and a placement that it allows
abbrev pub stated : Outcome → List ℕ → List ℕ → Bool
stated (accepted l) p s = same (canonical l) s && allowed (floating_of l) p
stated (refused number place) p s = false

unfoldable pub is_stated : ℕ → List ℕ → Bool
is_stated kind c = stated (outcome (line_in kind c)) (placement_in kind c) (line_in kind c)

abbrev pub entry_in : ℕ → List ℕ → Entry
entry_in kind c = record { placement = placement_in kind c; line = line_in kind c }

-- ---- under a number there is no entry; or something that is damaged; or an entry, in these blocks
pub data Looked : Type 0 where
  absent : Looked
  damaged : Looked
  present : List ℕ → Entry → Looked

abbrev pub whole : ℕ → Chain → Looked
whole kind t = cond (is_stated kind t.content) (present t.blocks (entry_in kind t.content)) damaged

-- the entry whose first block is b
abbrev pub starting_at : List ℕ → ℕ → ℕ → Looked
starting_at a number b =
    given (follow (blocks_in a) a number (block_kind (block_at a b)) b) (whole (block_kind (block_at a b))) damaged

-- 25 "is given when the number has two sound first blocks, when its chain meets an unsound block, a wrong kind or number, a block twice or content other than
-- stated, and when no sound first block has it while some block is unsound"
abbrev pub by_firsts : List ℕ → ℕ → List ℕ → Looked
by_firsts a number [] = cond (all_sound a) absent damaged
by_firsts a number (b ∷ []) = starting_at a number b
by_firsts a number (b ∷ c ∷ l) = damaged

unfoldable pub look : List ℕ → ℕ → Looked
look a number = by_firsts a number (firsts a number)
