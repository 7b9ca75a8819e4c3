-- `reader::store_anew` meets its contract: what the sheet has of the line, over cleared areas. Assumes nothing.
use mathlib.Core.Path.{◌≡◌}
use borrow.Author.Rules.{rules}
use lib.IntN.{pos}
use lib.ListN.{length, replicate}
use Rattle.reader.proofs.Storing.{fills_cleared, filled_cleared}
use Rattle.reader.proofs.store_anew.Goals as goal

pub store-requires : goal.store-requires
store-requires c =
    let b : c.fill.new.self ≡ replicate (length c.args.bytes.now) 0 = search rules in
    let n : c.fill-2.new.self ≡ replicate (length c.args.numbers.now) (pos 0) = search rules in
    fills_cleared c.args.bytes.now c.args.numbers.now c.told-bytes c.told-numbers b n c.requires

pub returns : goal.returns
returns c =
    let b : c.fill.new.self ≡ replicate (length c.args.bytes.now) 0 = search rules in
    let n : c.fill-2.new.self ≡ replicate (length c.args.numbers.now) (pos 0) = search rules in
    filled_cleared c.args.bytes.now c.args.numbers.now c.told-bytes c.told-numbers b n c.store.ensures
