-- `reader::read_roomy` meets its contract: what the verdict has noted is stored. Assumes nothing.
use native.Mathlib.Omega.{arith}
use Rattle.store.proofs.NotedLine.{is_accepted}
use Rattle.reader.proofs.Reading.{accepts_line}
use Rattle.reader.proofs.read_roomy.Goals as goal

pub returns : goal.returns
returns c =
    let w = c.in_ok-noted.ensures in
    accepts_line _ _ _ (omega (arith, c.told-bytes)) (omega (arith, c.told-numbers)) w.0 (is_accepted {l = w.0} w.1) _ _ c.store_anew.ensures
