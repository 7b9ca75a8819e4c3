-- How much an entry takes at most.
use Rattle.std.specs.Prelude.{ℕ, ◌+◌, ◌*◌}
use Rattle.scope.specs.Limits.{line_limit}
use Rattle.blocks.specs.Block.{content_room, new_kind}
use Rattle.blocks.specs.Entry.{position_bytes}
use Rattle.blocks.specs.Answers.{blocks_for}

-- bytes of content
abbrev pub content_most : ℕ
content_most = position_bytes new_kind + line_limit

-- blocks, and the content that they have room for
abbrev pub chain_most : ℕ
chain_most = blocks_for content_most

abbrev pub chain_room : ℕ
chain_room = content_room * chain_most
