-- `keeping::entry_from` meets its contract: 26, 17, or the next first block from there on. Assumes nothing.
use Rattle.std.proofs.Common.{ap, ap₂, sym, ◌∙◌}
use Rattle.scope.specs.Answers.{refuses, reason_number}
use Rattle.keeping.proofs.Calls.{handed_on, refused_so, listed_26, listed_none, listed_one}
use Rattle.keeping.proofs.entry_from.Goals as goal

pub returns-in_err-whole : goal.returns-in_err-whole
returns-in_err-whole c =
    let w = rw c.in_err-whole.was at c.whole.ensures in
    handed_on c.from_residual.result _ c.from_residual.ensures.1 ∙ refused_so _ w.1 ∙ sym (listed_26 _ _ w.0)

pub returns-in_default : goal.returns-in_default
returns-in_default c =
    let w = rw c.in_ok-whole.was at c.whole.ensures in
    let many = rw w.1 at c.in_ok-whole.whole.whole.many in
    let f = rw w.1 at (rw c.in_default.is at c.head_from.ensures) in
    ap₂ refuses (ap (λ r. reason_number r) c.refused.ensures.0) c.refused.ensures.1 ∙ sym (listed_none _ _ w.0 many f)

pub returns : goal.returns
returns c =
    let w = rw c.in_ok-whole.was at c.whole.ensures in
    let many = rw w.1 at c.in_ok-whole.whole.whole.many in
    let f = rw w.1 at (rw c.in-Some.is at c.head_from.ensures) in
    listed_one _ _ w.0 many f (rw w.1 at c.number-number.ensures)
