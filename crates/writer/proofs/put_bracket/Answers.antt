-- The parts between two bytes, by the shape; a count behind them where there is one; a declaration with its places. Assumes nothing.
use native.Mathlib.Omega.{arith}
use Rattle.figures.proofs.Storing.{puts_of, puts_within, puts_join}
use Rattle.writer.proofs.RunLaws.{as_counted, as_curly, as_square, as_declared}
use Rattle.writer.proofs.put_bracket.Goals as goal

pub returns-in-Counted : goal.returns-in-Counted
returns-in-Counted c =
    let a = c.args in
    puts_of (as_counted a.bytes.now a.numbers.now a.k c.in-Counted.is c.count-n.ensures.0)
    (puts_within (omega arith) (puts_join c.put_between-a.ensures c.put_count.ensures))

pub returns-in-Curly : goal.returns-in-Curly
returns-in-Curly c = puts_of (as_curly _ _ _ c.in-Curly.is) (puts_within (omega arith) c.put_between.ensures)

pub returns-in-Square : goal.returns-in-Square
returns-in-Square c = puts_of (as_square _ _ _ c.in-Square.is) (puts_within (omega arith) c.put_between-in-Square.ensures)

pub returns-in-Angled : goal.returns-in-Angled
returns-in-Angled c = puts_of (as_declared _ _ _ c.in-Angled.is) (puts_within (omega arith) c.put_declared.ensures)
