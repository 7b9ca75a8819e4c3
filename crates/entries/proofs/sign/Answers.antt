-- `entries::sign` meets its contract: a number below zero has a minus. Assumes nothing.
use Rattle.entries.proofs.Texts.{minus_text, plus_text}
use Rattle.entries.proofs.sign.Goals as goal

pub returns-then-m-lt0 : goal.returns-then-m-lt0
returns-then-m-lt0 c = minus_text _ c.ranges.m c.if-m-lt0.true

pub returns-else-m-lt0 : goal.returns-else-m-lt0
returns-else-m-lt0 c = plus_text _ c.ranges.m c.if-m-lt0.false
