-- `block::are_zero` meets its contract: the bytes' answers, joined. Assumes nothing.
use Rattle.std.proofs.Common.{◌≡◌, ◌∙◌, true, ◌&&◌, eqb, rules}
use Rattle.std.specs.List.{fold}
use Rattle.block.proofs.Zeros.{zeros}
use Rattle.block.proofs.are_zero.Goals as goal

pub returns : goal.returns
returns c = let e : c.fold.result ≡ fold (λ t b. t && eqb b 0) true c.args.bytes.now = search rules in e ∙ zeros _
