use native.Mathlib.Omega.{arith}
use Rattle.brackets.proofs.Laws.{infos_start, infos_next, infos_other, infos_end}
use Rattle.brackets.proofs.only_info.Goals as goal

pub returns-then-key : goal.returns-then-key
returns-then-key c = infos_other c.loop-j.invariant (omega arith) c.key-key.ensures.0 c.if-key.true

pub loop-j-preserved : goal.loop-j-preserved
loop-j-preserved c = infos_next c.loop-j.invariant (omega arith) c.key-key.ensures.0 c.if-key.false

pub loop-j-init : goal.loop-j-init
loop-j-init c = infos_start _ _ _ c.parts-m.ensures.0 c.parts-m.ensures.1

pub returns : goal.returns
returns c = infos_end c.loop-j.invariant (omega arith)
