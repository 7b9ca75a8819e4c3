-- A dash behind a letter, and the letter.
use Rattle.sites.proofs.Termini.{line_ends_lem, no_dash, dashed}
use Rattle.sites.proofs.terminus_at.Goals as goal
use Rattle.sites.proofs.terminus_at.Goals.{else-at-line-via-then-at-line+else-line-at-eq45, else-at-line-via-else-at-line}

pub returns-then-line-at-eq45 : goal.returns-then-line-at-eq45
returns-then-line-at-eq45 c = dashed _ _ _ _ c.if-line-at-eq45.true c.upper.ensures c.terminus_of.ensures

pub returns-else-at-line : goal.returns-else-at-line
returns-else-at-line c =
    elim c.else-at-line.branch [
      | else-at-line-via-then-at-line+else-line-at-eq45 w ↦ no_dash _ _ w.if-line-at-eq45.false
      | else-at-line-via-else-at-line w ↦ line_ends_lem _ _ w.if-at-line.false
    ]
