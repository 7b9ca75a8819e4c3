-- `contents::is_canonical` meets its contract: the canonical line is written into an output that has room, and compared. Assumes nothing.
use Rattle.std.proofs.Common.{sym, ap, ◌∙◌, take, ne_eqb, arith}
use Rattle.scope.specs.Lists.{same}
use Rattle.basics.specs.Lists.{same_length}
use Rattle.contents.proofs.Front.{same_slices, line_front}
use Rattle.contents.proofs.is_canonical.Goals as goal

pub returns-then-n-line : goal.returns-then-n-line
returns-then-n-line c =
    c.eq.ensures ∙ same_slices _ c.args.line.now
    ∙ ap (λ t. same t c.args.line.now) (ap (λ n. take n c.write_line-n.new.out) c.if-n-line.true ∙ line_front c.write_line-n.ensures c.if-n-line.true (omega arith))

pub returns-else-n-line : goal.returns-else-n-line
returns-else-n-line c = ne_eqb _ _ c.if-n-line.false ∙ sym (same_length _ _ (λ e. c.if-n-line.false (c.write_line-n.ensures.long ∙ e)))
