-- `chunks::feed` meets its contract: the line that is begun goes on past the chunk, or it ends, and lines behind it. Assumes nothing.
use mathlib.Core.Path.{refl}
use native.Mathlib.Omega.{arith}
use Rattle.chunks.proofs.Room.{still_clean}
use Rattle.chunks.proofs.Putting.{feeds_held, feeds_lines}
use Rattle.chunks.proofs.feed.Goals as goal

pub gather-cut-requires : goal.gather-cut-requires
gather-cut-requires c = (c.requires.0, c.requires.2.within, c.requires.2.room)

pub returns-else-cut : goal.returns-else-cut
returns-else-cut c = feeds_held c.requires.2 c.gather-cut.ensures c.if-cut.false

pub put_part-entered-requires : goal.put_part-entered-requires
put_part-entered-requires c =
    let m = c.gather-cut.ensures in
    let w = c.requires.2 in
    (omega arith, omega (arith, m.within, m.room), w.clean, omega (arith, w.wide))

pub put_lines-requires : goal.put_lines-requires
put_lines-requires c =
    let b = c.requires in
    let n = c.gather-cut.ensures in
    let r = c.put_part-entered.ensures.0 in
    let w = b.2 in (
      n.inside,
      omega (arith, b.1, n.goes c.if-cut.true),
      still_clean r w.clean,
      omega (arith, r.puts.near, r.out_long, w.wide),
      omega (arith, b.3, c.one_if.ensures.1),
      refl,
    )

pub returns-then-cut : goal.returns-then-cut
returns-then-cut c =
    feeds_lines c.requires.2 c.gather-cut.ensures c.if-cut.true c.put_part-entered.ensures c.one_if.ensures
    c.put_lines.ensures
