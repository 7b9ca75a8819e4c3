-- `calls::why_none` meets its contract: 13 or 14 where they are due, else the floaters that have too few positions.
use Rattle.std.proofs.Common.{rules, sym, subst, ◌≡◌, Err}
use Rattle.calls.specs.Competing.{WhySays}
use Rattle.calls.proofs.WhyLaws.{why_refused, why_said}
use Rattle.calls.proofs.why_none.Goals as goal

pub returns-in_err-bytes : goal.returns-in_err-bytes
returns-in_err-bytes c =
    let same : c.from_residual.result ≡ Err c.in_err-bytes.field-0.0 = search rules in
    subst (WhySays c.args.bytes.now c.args.numbers.now) (sym same) (why_refused _ _ _ c.in_err-bytes.ensures)
