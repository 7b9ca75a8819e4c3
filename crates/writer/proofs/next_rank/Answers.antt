-- No bracket from j on has a lower rank than bracket j, where they are in order. Assumes nothing.
use native.Mathlib.Omega.{arith}
use Rattle.writer.proofs.next_rank.Goals as goal

pub returns-then-j-brackets : goal.returns-then-j-brackets
returns-then-j-brackets c = λ ns d k h l. omega (arith, d.sorted _ k h l, c.rank_at.ensures)
