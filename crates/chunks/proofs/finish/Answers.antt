-- `chunks::finish` meets its contract: nothing is held, or the entry of what is held. Assumes nothing.
use native.Mathlib.Omega.{arith}
use Rattle.chunks.proofs.Putting.{ends_none, ends_line}
use Rattle.chunks.proofs.finish.Goals as goal

pub returns-then-state-eq0 : goal.returns-then-state-eq0
returns-then-state-eq0 c = ends_none _ _ _ _ c.if-state-eq0.true

pub put_part-requires : goal.put_part-requires
put_part-requires c =
    let w = c.requires in
    (omega arith, omega (arith, w.within, w.room), w.clean, omega (arith, w.wide))

pub returns-else-state-eq0 : goal.returns-else-state-eq0
returns-else-state-eq0 c = ends_line _ _ c.requires (omega (arith, c.if-state-eq0.false)) c.put_part.ensures
