-- `chains::Area::head_from` meets its contract: the first that passes. Assumes nothing.
use Rattle.std.proofs.Common.{◌≡◌, true, false, rules, tests}
use Rattle.std.proofs.lemmas.Iterator.{first_from_Range}
use Rattle.blocks.specs.Answers.{is_head}
use Rattle.chains.proofs.borrowed.Area.head_from.Goals as goal

pub returns : goal.returns
returns c =
    let test = is_head c.args.self.now.bytes.now in
    first_from_Range _ _ _ _ (λ b. test b ≡ true) (λ b. test b ≡ false) c.find.ensures.ran (λ x q k. search (rules, tests)) (λ x q k. search (rules, tests))
