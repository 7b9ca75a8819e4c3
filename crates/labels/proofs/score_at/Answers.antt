-- A score is a number, or is stuck.
use borrow.Author.Rules.{rules}
use Rattle.std.proofs.lemmas.Result.{err_from_is_err_and}
use Rattle.labels.proofs.Scores.{score_some, score_none}
use Rattle.labels.proofs.score_at.Goals as goal

pub returns-in_err-number : goal.returns-in_err-number
returns-in_err-number c =
    let p = err_from_is_err_and c.from_residual.result c.from_residual.ensures.1 in
    rw (p.1, p.2) (score_none _ _ _ _ (search rules) _ c.in_err-number.ensures)

pub returns : goal.returns
returns c = score_some _ _ _ c.requires _ c.in_ok-number.ensures _ c.score_end.ensures
