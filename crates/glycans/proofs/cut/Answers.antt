-- Piece by piece from the right, until no piece ends what is left. Assumes nothing.
use Rattle.std.proofs.Common.{arith, rules}
use Rattle.glycans.proofs.Ways.{so_far_start, weight_most_lem, so_far_next, cut_not, cut_so}
use Rattle.glycans.proofs.cut.Goals as goal

pub loop-rest-init : goal.loop-rest-init
loop-rest-init c = so_far_start _

pub overflow_mul-from : goal.overflow_mul-from
overflow_mul-from c = rw (c.from.ensures, c.sugar_at-s.ensures.1) (omega (arith, weight_most_lem c.loop-rest.invariant c.in_ok-p.ensures c.digits.ensures))

pub added-mass-requires : goal.added-mass-requires
added-mass-requires c = rw (c.from.ensures, c.sugar_at-s.ensures.1) (weight_most_lem c.loop-rest.invariant c.in_ok-p.ensures c.digits.ensures)

pub loop-rest-preserved : goal.loop-rest-preserved
loop-rest-preserved c =
    rw c.sugar_at-s.ensures.0
    (so_far_next c.loop-rest.invariant c.in_ok-p.ensures c.digits.ensures (rw (c.from.ensures, c.sugar_at-s.ensures.1) at c.added-mass.ensures))

pub returns : goal.returns
returns c = cut_so c.loop-rest.invariant (search rules)

pub returns-in_err-p : goal.returns-in_err-p
returns-in_err-p c = rw c.from_residual.ensures (cut_not c.loop-rest.invariant c.in_err-p.ensures (search rules))
