use Rattle.rules.proofs.Searched.{named_starts, named_more, named_found, named_ends, legible_fewer}
use native.Mathlib.Omega.{arith}
use Rattle.rules.proofs.is_named.Goals as goal

pub loop-k-init : goal.loop-k-init
loop-k-init c = named_starts _ _ _ _ _ _

pub names-requires : goal.names-requires
names-requires c = (legible_fewer _ _ _ _ _ c.requires.0 (omega (arith, c.loop-k-test.true)), c.requires.1)

pub returns-then-names : goal.returns-then-names
returns-then-names c = named_found _ _ _ _ _ _ _ c.loop-k.invariant c.loop-k-test.true c.names.ensures c.if-names.true

pub loop-k-preserved : goal.loop-k-preserved
loop-k-preserved c = named_more _ _ _ _ _ _ _ c.loop-k.invariant c.loop-k-test.true c.names.ensures c.if-names.false

pub returns : goal.returns
returns c = named_ends _ _ _ _ _ _ _ c.loop-k.invariant c.loop-k-test.false
