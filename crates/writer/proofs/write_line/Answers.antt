-- The line from the first place on. Assumes nothing.
use native.Mathlib.Omega.{arith}
use Rattle.writer.proofs.LineLaws.{whole_line}
use Rattle.writer.proofs.write_line.Goals as goal

pub returns : goal.returns
returns c = whole_line (omega arith) c.put_line.ensures
