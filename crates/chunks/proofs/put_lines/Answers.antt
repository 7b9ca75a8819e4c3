-- `chunks::put_lines` meets its contract. The loop: the lines up to `next` are put, and those refused are counted. Assumes nothing.
use mathlib.Core.Path.{refl}
use native.Mathlib.Omega.{arith}
use Rattle.chunks.proofs.Putting.{goes_start, goes_line, goes_end, stays_few}
use Rattle.chunks.proofs.put_lines.Goals as goal

pub loop-fed-init : goal.loop-fed-init
loop-fed-init c =
    let p = c.requires in
    (goes_start _ _ _ _ _ _ p.0 p.2 p.3, p.5, refl)

pub overflow_sub-fed : goal.overflow_sub-fed
overflow_sub-fed c = omega (arith, c.loop-fed.invariant.0.fits, c.loop-fed.invariant.0.out_long)

pub line_end-end-requires : goal.line_end-end-requires
line_end-end-requires c = c.loop-fed.invariant.0.inside

pub returns-then-end-chunk : goal.returns-then-end-chunk
returns-then-end-chunk c = goes_end _ _ _ _ _ _ c.loop-fed.invariant

pub put_part-entered-requires : goal.put_part-entered-requires
put_part-entered-requires c =
    let w = c.loop-fed.invariant.0 in
    (c.line_end-end.ensures.past, c.line_end-end.ensures.within, w.clean, omega (arith, c.loop-fed-test.true, w.fits, w.out_long))

pub overflow_add-refused : goal.overflow_add-refused
overflow_add-refused c =
    let w = c.loop-fed.invariant.0 in
    omega (arith, stays_few _ _ w.leaves c.requires.4, c.one_if.ensures.1, w.count, c.line_end-end.ensures.past, c.line_end-end.ensures.within, c.requires.1)

pub loop-fed-smaller : goal.loop-fed-smaller
loop-fed-smaller c = omega (arith, c.line_end-end.ensures.past, c.line_end-end.ensures.within, c.if-end-chunk.false)

pub loop-fed-preserved : goal.loop-fed-preserved
loop-fed-preserved c =
    let w = c.loop-fed.invariant.0 in (
      goes_line _ _ _ _ _ _ w c.line_end-end.ensures c.if-end-chunk.false c.put_part-entered.ensures c.one_if.ensures
          (omega (arith, c.loop-fed-test.true, w.fits, w.out_long)),
      refl,
      c.loop-fed.invariant.2,
    )

pub returns : goal.returns
returns c = goes_end _ _ _ _ _ _ c.loop-fed.invariant
