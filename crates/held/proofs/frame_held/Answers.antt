-- `held::frame_held` meets its contract: the head, zeros in two places, the score. Assumes nothing.
use mathlib.Core.Path.{sym, ◌∙◌}
use Rattle.store.proofs.PutRows.{back}
use Rattle.held.proofs.Joins.{tells_as, tells_both}
use Rattle.held.proofs.frame_held.Goals as goal

pub returns : goal.returns
returns c =
    let score = back _ c.score_number.type_inv c.score_number.ensures in
    tells_as (λ p. record { head_at_lem = p.0.0.0; rows_zero = p.0.0.1; masses_zero = p.0.1; score_is = sym score ∙ p.1 })
    (λ f. (((f.head_at_lem, f.rows_zero), f.masses_zero), score ∙ f.score_is))
    (tells_both (tells_both (tells_both c.head_held.ensures c.zero_bytes.ensures) c.zero_numbers.ensures) c.is_scored.ensures)
