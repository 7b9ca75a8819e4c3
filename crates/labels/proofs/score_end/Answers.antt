-- A score is closed by `)`.
use borrow.Author.Rules.{rules}
use mathlib.Core.Option.{some}
use native.Mathlib.Omega.{arith}
use Rattle.labels.specs.Within.{score_end}
use Rattle.labels.proofs.Saying.{over}
use Rattle.labels.proofs.Scores.{not_closed, closed_score}
use Rattle.labels.proofs.score_end.Goals as goal
use Rattle.labels.proofs.score_end.Goals.{then-line-next-via-then-line-next, then-line-next-via-else-line-next+then-line-next-ne41}

pub returns-then-line-next : goal.returns-then-line-next
returns-then-line-next c =
    λ n is a k.
    elim c.then-line-next.branch [
      | then-line-next-via-then-line-next w ↦ over _ _ _ (λ q x. score_end x q _ _ n) w.if-line-next.true k
      | then-line-next-via-else-line-next+then-line-next-ne41 w ↦ not_closed _ _ _ n _ w.if-line-next.false w.if-line-next-ne41.true
    ]

pub returns : goal.returns
returns c = λ n is a k. closed_score _ _ _ n _ c.if-line-next.false c.if-line-next-ne41.false _ (c.label_end.ensures (some n) is (omega arith) (search rules))
