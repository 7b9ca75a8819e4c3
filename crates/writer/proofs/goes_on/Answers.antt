-- No group goes on past the last residue; else the section of the residue says it. Assumes nothing.
use Rattle.std.proofs.Common.{◌∙◌, le-ltb}
use Rattle.writer.proofs.LineLaws.{goes_over, goes_next}
use Rattle.writer.proofs.goes_on.Goals as goal

pub returns-else-p-n : goal.returns-else-p-n
returns-else-p-n c =
    let a = c.args in
    le-ltb _ _ c.if-p-n.false ∙ goes_over a.bytes.now a.p a.n c.if-p-n.false

pub returns-then-p-n : goal.returns-then-p-n
returns-then-p-n c = goes_next c.args.bytes.now _ _ c.if-p-n.true c.section.ensures.0 c.is_next.ensures
