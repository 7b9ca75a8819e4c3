use mathlib.Core.Path.{◌≡◌}
use native.Mathlib.Omega.{arith}
use Rattle.writer.proofs.RankLaws.{bracket_here}
use Rattle.writer.proofs.Walking.{room_one}
use Rattle.writer.proofs.RunLaws.{run_start, run_more, run_stop, run_over}
use Rattle.writer.proofs.put_run.Goals as goal

pub loop-j-init : goal.loop-j-init
loop-j-init c = run_start _ _ _ _ _ _ _ _ c.brackets-m.ensures.0 c.requires.1 c.requires.2

pub rank_at-r-requires : goal.rank_at-r-requires
rank_at-r-requires c =
    let b = c.requires.0.bounds in
    omega (arith, b.few_brackets_lem, c.brackets-m.ensures.0)

pub returns-then-q-r : goal.returns-then-q-r
returns-then-q-r c = run_stop _ _ _ _ _ _ _ _ c.loop-j.invariant c.requires.0 c.loop-j-test.true c.rank_at-r.ensures c.if-q-r.true

pub put_ranked-a-requires : goal.put_ranked-a-requires
put_ranked-a-requires c =
    let b = c.requires.0.bounds in
    let i = c.loop-j.invariant in
    let e = c.brackets-m.ensures.0 in
    (bracket_here _ _ _ b (omega (arith, e)), c.rank_at-r.ensures, room_one i.forth (omega (arith, e)) i.puts c.requires.3)

pub loop-j-preserved : goal.loop-j-preserved
loop-j-preserved c =
    run_more _ _ _ _ _ _ _ _ c.loop-j.invariant c.loop-j-test.true c.rank_at-r.ensures c.if-q-r.false c.put_ranked-a.ensures

pub returns : goal.returns
returns c =
    let e : c.loop-j.j ≡ c.brackets-m.result = omega (arith, c.loop-j.invariant.within) in
    rw e at (run_over _ _ _ _ _ _ _ _ c.loop-j.invariant c.loop-j-test.false)
