-- `block::put_entry` meets its contract: the front, the content and the sum. Assumes nothing.
use mathlib.Core.Path.{◌∙◌, ◌≡◌}
use borrow.Author.Rules.{rules}
use lib.ListN.{length}
use Rattle.scope.specs.Limits.{block_size}
use Rattle.block.proofs.Fronts.{entry_written}
use Rattle.block.proofs.put_entry.Goals as goal

pub returns : goal.returns
returns c =
    let long : length c.put_front.new.block ≡ block_size = search rules in
    c.seal.ensures
    ∙ entry_written _ _ _ c.args.content.now c.put_front.new.block c.put_content.new.block c.put_front.ensures long c.requires.1
    c.put_content.ensures
