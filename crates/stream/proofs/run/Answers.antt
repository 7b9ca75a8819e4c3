-- `stream::run` is safe and ends: its arrays are what `serve` asks. Assumes nothing.
use native.Mathlib.Omega.{arith}
use Rattle.stream.proofs.run.Goals as goal

pub serve-last-requires : goal.serve-last-requires
serve-last-requires g c = (omega arith, c.new-desk.ensures)

pub overflow_sub-line : goal.overflow_sub-line
overflow_sub-line g c = c.serve-last.ensures
