-- `chains::Area::first_from` meets its contract: the first that passes. Assumes nothing.
use Rattle.std.proofs.Common.{◌≡◌, true, false, rules, tests}
use Rattle.std.proofs.lemmas.Iterator.{first_from_Range}
use Rattle.chains.specs.Whole.{is_first_of}
use Rattle.chains.proofs.borrowed.Area.first_from.Goals as goal

pub returns : goal.returns
returns c =
    let test = is_first_of c.args.self.now.bytes.now c.args.number in
    first_from_Range _ _ _ _ (λ b. test b ≡ true) (λ b. test b ≡ false) c.find.ensures.ran (λ x q k. search (rules, tests)) (λ x q k. search (rules, tests))
