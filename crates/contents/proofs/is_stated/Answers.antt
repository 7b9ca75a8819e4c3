-- `contents::is_stated` meets its contract: a placement in front, a line behind it. Assumes nothing.
use Rattle.std.proofs.Common.{◌∙◌, arith}
use Rattle.std.proofs.lemmas.Bool.{lt-leb}
use Rattle.blocks.specs.Block.{new_kind}
use Rattle.blocks.specs.Entry.{position_bytes}
use Rattle.contents.proofs.Front.{rest_part}
use Rattle.contents.proofs.Taken.{short_content, as_stated}
use Rattle.contents.proofs.is_stated.Goals as goal

pub returns-then-content-ge-POSITIONS : goal.returns-then-content-ge-POSITIONS
returns-then-content-ge-POSITIONS c =
    as_stated c.args.content.now c.is_entry.ensures c.placement_in.ensures (rest_part (position_bytes new_kind) c.args.content.now)

pub returns-else-content-ge-POSITIONS : goal.returns-else-content-ge-POSITIONS
returns-else-content-ge-POSITIONS c = lt-leb _ _ c.if-content-ge-POSITIONS.false ∙ short_content _ c.if-content-ge-POSITIONS.false
