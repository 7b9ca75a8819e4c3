-- `taking::free_from` meets its contract: the first that passes. Assumes nothing.
use Rattle.std.proofs.Common.{◌≡◌, true, false, rules, tests}
use Rattle.std.proofs.lemmas.Iterator.{first_from_Range}
use Rattle.blocks.specs.Area.{is_free}
use Rattle.taking.proofs.free_from.Goals as goal

pub returns : goal.returns
returns c =
    let test = is_free c.args.area.now.bytes.now in
    first_from_Range _ _ _ _ (λ b. test b ≡ true) (λ b. test b ≡ false) c.find.ensures.ran (λ x q k. search (rules, tests)) (λ x q k. search (rules, tests))
