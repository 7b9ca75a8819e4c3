-- `held::rest_held` meets its contract: zeros in three places. Assumes nothing.
use Rattle.held.proofs.Joins.{tells_as, tells_both}
use Rattle.held.proofs.rest_held.Goals as goal

pub returns : goal.returns
returns c =
    tells_as (λ p. record { rows_at_is = p.0.0; texts_at_lem = p.0.1; masses_at = p.1 }) (λ h. ((h.rows_at_is, h.texts_at_lem), h.masses_at))
    (tells_both (tells_both c.zero_bytes.ensures c.zero_bytes-2.ensures) c.zero_numbers.ensures)
