-- `block::make_free` meets its contract: kind and next among zeros, and the sum. Assumes nothing.
use Rattle.std.proofs.Common.{◌∙◌, ◌≡◌, length, replicate, rules}
use Rattle.block.proofs.Fronts.{free_written}
use Rattle.block.proofs.make_free.Goals as goal

pub returns : goal.returns
returns c =
    let zeros : c.fill.new.self ≡ replicate (length c.args.block.now) 0 = search rules in
    c.seal.ensures ∙ free_written _ zeros c.requires
