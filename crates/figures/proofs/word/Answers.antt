-- As many bytes as fit are copied at once. Assumes nothing.
use Rattle.std.proofs.Common.{arith, rules}
use Rattle.figures.proofs.Storing.{copied_over, copied_all}
use Rattle.figures.proofs.word.Goals as goal
use Rattle.figures.proofs.word.Goals.{then-at-out, else-at-out}

pub returns : goal.returns
returns c =
    elim c.if-at-out.branch [
      | then-at-out w ↦ rw w.out-is (copied_all c.args.w.now c.args.out.now c.args.at w.min-m.result w.if-at-out.true (search rules) (omega arith) w.copy.ensures)
      | else-at-out w ↦ rw w.out-is (copied_over c.args.w.now w.if-at-out.false)
    ]
