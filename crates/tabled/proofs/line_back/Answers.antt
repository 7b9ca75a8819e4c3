-- `tabled::line_back` meets its contract: what is written is read back.
use Rattle.std.proofs.Common.{rules}
use Rattle.tabled.specs.Fourteen.{written_too_long, read_back, its_line}
use Rattle.tabled.proofs.line_back.Goals.{else-n-le-LINE-via-then-n-le-LINE+else-reads_to, else-n-le-LINE-via-else-n-le-LINE}
use Rattle.tabled.proofs.line_back.Goals as goal

pub returns-then-reads_to : goal.returns-then-reads_to
returns-then-reads_to c =
    its_line _ _ c.write_line-n.ensures (search rules) c.if-n-le-LINE.true
    (read_back _ _ c.write_line-n.ensures (search rules) c.reads_to.ensures c.if-reads_to.true)

pub returns-else-n-le-LINE : goal.returns-else-n-le-LINE
returns-else-n-le-LINE c =
    elim c.else-n-le-LINE.branch [ else-n-le-LINE-via-then-n-le-LINE+else-reads_to w ↦ read_back _ _ c.write_line-n.ensures (search rules) w.reads_to.ensures w.if-reads_to.false | else-n-le-LINE-via-else-n-le-LINE w ↦ written_too_long _ _ c.write_line-n.ensures w.if-n-le-LINE.false ]
