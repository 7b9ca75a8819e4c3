use native.Mathlib.Omega.{arith}
use Rattle.brackets.proofs.Places.{naming_start, naming_found, naming_next, naming_end}
use Rattle.brackets.proofs.is_named.Goals as goal

pub returns-then-site-s : goal.returns-then-site-s
returns-then-site-s c = naming_found c.loop-j.invariant (omega arith) c.site-s.ensures c.if-site-s.true

pub loop-j-preserved : goal.loop-j-preserved
loop-j-preserved c = naming_next c.loop-j.invariant (omega arith) c.site-s.ensures c.if-site-s.false

pub loop-j-init : goal.loop-j-init
loop-j-init c = naming_start _ _ _ _ c.places-m.ensures.0 c.requires.few_places

pub returns : goal.returns
returns c = naming_end c.loop-j.invariant (omega arith)
