-- `keeping::look_from` meets its contract: a chain was gathered or not, and its content is as stated or not. Assumes nothing.
use Rattle.std.proofs.Common.{refl, ap}
use Rattle.scope.specs.Answers.{reason_number}
use Rattle.keeping.proofs.Looks.{entry_found, entry_unstated}
use Rattle.keeping.proofs.look_from.Goals as goal

pub returns-then-is_stated : goal.returns-then-is_stated
returns-then-is_stated c =
    let chain = c.in-Some.chain in
    entry_found chain (rw c.in-Some.is at c.gather.ensures) refl c.is_stated.ensures c.if-is_stated.true

pub returns-else-is_stated : goal.returns-else-is_stated
returns-else-is_stated c =
    let chain = c.in-Some.chain in
    (entry_unstated chain (rw c.in-Some.is at c.gather.ensures) refl c.is_stated.ensures c.if-is_stated.false, (ap (λ r. reason_number r) c.refused-else-is_stated.ensures.0, c.refused-else-is_stated.ensures.1))
