-- `is_number` meets its contract: a run of digits from the text's first byte reaches its end. Assumes nothing.
use native.Mathlib.Omega.{arith}
use Rattle.dues.proofs.Numerals.{digits_only}
use Rattle.dues.proofs.is_number.Goals as goal

pub returns-then-from-to : goal.returns-then-from-to
returns-then-from-to c =
    let p = c.requires in
    digits_only _ _ _ _ (omega (arith, p.0, c.if-from-to.true)) p.1 c.digit_end.ensures
