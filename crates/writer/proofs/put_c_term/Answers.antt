-- The last bracket is at the C-terminus, or none is: then nothing is written. Assumes nothing.
use native.Mathlib.Omega.{arith}
use Rattle.figures.proofs.Storing.{puts_none, puts_of, puts_within, puts_join}
use Rattle.writer.proofs.Walking.{room_behind}
use Rattle.writer.proofs.LineLaws.{c_term_none, c_term_below, c_term_some}
use Rattle.writer.proofs.put_c_term.Goals as goal

pub returns-then-m-eq0 : goal.returns-then-m-eq0
returns-then-m-eq0 c =
    let a = c.args in
    puts_of (c_term_none a.bytes.now a.numbers.now c.brackets-m.ensures.0 c.if-m-eq0.true) (puts_within (omega arith) (puts_none _ _))

pub returns-then-r-q : goal.returns-then-r-q
returns-then-r-q c =
    puts_of
    (c_term_below c.args.bytes.now c.args.numbers.now c.brackets-m.ensures.0 c.requires.0 c.if-m-eq0.false c.c_term_rank-q.ensures
    c.rank_at-r.ensures c.if-r-q.true)
    (puts_within (omega arith) (puts_none _ _))

pub put-a-requires : goal.put-a-requires
put-a-requires c = omega (arith, c.requires.3.fits)

pub put_run-pen-requires : goal.put_run-pen-requires
put_run-pen-requires c =
    (c.requires.0, c.requires.1, (λ i h. omega (arith, c.requires.2 i h, c.c_term_rank-q.ensures)), room_behind (omega arith) c.put-a.ensures c.requires.3)

pub returns : goal.returns
returns c =
    let v = c.put_run-pen.ensures in
    puts_of
    (c_term_some c.args.bytes.now c.args.numbers.now c.brackets-m.ensures.0 c.requires.0 c.if-m-eq0.false c.c_term_rank-q.ensures
    c.rank_at-r.ensures c.if-r-q.false)
    (puts_within (omega (arith, v.within, v.forth)) (puts_join c.put-a.ensures v.puts))
