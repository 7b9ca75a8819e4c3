use Prim.Native.Nat.{◌+◌}
use native.Mathlib.Omega.{arith}
use Rattle.exchange.proofs.Laws.{full_less}
use Rattle.exchange.proofs.Runs.{from_full, lowest_from}
use Rattle.exchange.proofs.first.Goals as goal

pub loop-m-preserved : goal.loop-m-preserved
loop-m-preserved c =
    c.in_ok-w.ensures.0

pub returns : goal.returns
returns c =
    let least = c.lowest-lows.ensures in
    let e = c.settle.ensures in
    (from_full _ _ _ _ e.0, λ u f. e.2 u (lowest_from _ _ _ u least f) (λ s l. absurd (omega arith)))

pub returns-in_err-w : goal.returns-in_err-w
returns-in_err-w c =
    let m = c.loop-m.m in
    rw c.from_residual.ensures (λ u f. c.in_err-w.ensures u (full_less _ _ (m + 1) u (omega arith) (lowest_from _ _ _ u c.lowest-lows.ensures f)) (λ s l. absurd (omega arith)))
