-- A key is spelled only before a colon.
use Rattle.values.proofs.Words.{key_over, key_there, no_colon}
use Rattle.values.proofs.key_before.Goals as goal
use Rattle.values.proofs.key_before.Goals.{else-end-line-via-then-end-line+else-line-end-eq58, else-end-line-via-else-end-line}

pub returns-then-line-end-eq58 : goal.returns-then-line-end-eq58
returns-then-line-end-eq58 c = key_there _ _ _ _ c.if-line-end-eq58.true c.key_in.ensures

pub returns-else-end-line : goal.returns-else-end-line
returns-else-end-line c =
    elim c.else-end-line.branch [
      | else-end-line-via-then-end-line+else-line-end-eq58 w ↦ no_colon _ _ _ w.if-line-end-eq58.false
      | else-end-line-via-else-end-line w ↦ key_over _ _ _ w.if-end-line.false
    ]
