use Rattle.rules.proofs.Searched.{among_starts, among_more, among_found, among_ends}
use native.Mathlib.Omega.{arith}
use Rattle.rules.proofs.has_label.Goals as goal

pub loop-i-init : goal.loop-i-init
loop-i-init c = among_starts _ _ _ _

pub overflow_add-y : goal.overflow_add-y
overflow_add-y c = omega (arith, (c.requires.1 c.loop-i.i c.loop-i-test.true).noted)

pub same_label-requires : goal.same_label-requires
same_label-requires c = (c.requires.0, c.requires.1 c.loop-i.i c.loop-i-test.true)

pub returns-then-same_label : goal.returns-then-same_label
returns-then-same_label c = among_found _ _ _ _ _ c.loop-i.invariant c.loop-i-test.true c.same_label.ensures c.if-same_label.true

pub loop-i-preserved : goal.loop-i-preserved
loop-i-preserved c = among_more _ _ _ _ _ c.loop-i.invariant c.loop-i-test.true c.same_label.ensures c.if-same_label.false

pub returns : goal.returns
returns c = among_ends _ _ _ _ _ c.loop-i.invariant c.loop-i-test.false
