-- What a bracket with these parts is, case by case.
use native.Mathlib.Omega.{arith}
use Rattle.inside.proofs.Answers.{sort_refers, sort_info, sort_bare, sort_named}
use Rattle.inside.proofs.sort_of.Goals as goal

pub returns-then-s : goal.returns-then-s
returns-then-s c = (sort_refers c.args.s c.if-s.true, omega arith)

pub returns-then-s-2 : goal.returns-then-s-2
returns-then-s-2 c = (sort_info c.args.s c.if-s.false c.if-s-2.true, omega arith)

pub returns-then-s-eq0 : goal.returns-then-s-eq0
returns-then-s-eq0 c = (sort_bare c.args.s c.if-s.false c.if-s-2.false c.if-s-eq0.true, omega arith)

pub returns : goal.returns
returns c = (sort_named c.args.s c.if-s.false c.if-s-2.false c.if-s-eq0.false, omega arith)
