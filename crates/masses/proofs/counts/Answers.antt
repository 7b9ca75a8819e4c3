-- `masses::counts` meets its contract. Assumes nothing.
use mathlib.Core.Path.{◌≡◌}
use native.Mathlib.Omega.{arith}
use borrow.Author.Rules.{rules}
use Rattle.scope.specs.Kinds.{is_declared}
use Rattle.brackets.specs.Fields.{count_is}
use Rattle.masses.proofs.TallyLaws.{times_reached, times_counted}
use Rattle.masses.proofs.counts.Goals as goal

pub returns-then-eq : goal.returns-then-eq
returns-then-eq c =
    let said : c.eq.result ≡ is_declared c.kind.result = search rules in
    (times_reached _ _ c.kind.ensures said c.if-eq.true c.reached.ensures.0, c.reached.ensures.1)

pub returns-else-eq : goal.returns-else-eq
returns-else-eq c =
    let said : c.eq.result ≡ is_declared c.kind.result = search rules in
    (times_counted _ _ c.kind.ensures said c.if-eq.false (count_is _ _ c.count.ensures.0), omega (arith, c.count.ensures.1))
