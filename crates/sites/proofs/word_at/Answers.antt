use Prim.Native.Nat.{◌+◌, ◌<◌}
use mathlib.Core.Path.{◌≡◌}
use lib.ListN.{length}
use native.Mathlib.Omega.{arith}
use Rattle.sites.proofs.Lists.{word_starts, word_whole, word_ends_early, word_differs, word_more}
use Rattle.sites.proofs.word_at.Goals as goal
use Rattle.sites.proofs.word_at.Goals.{then-at-k-via-then-at-k, then-at-k-via-else-at-k+then-upper}

pub loop-k-init : goal.loop-k-init
loop-k-init c = (omega arith, word_starts _ _ _)

pub returns-then-at-k : goal.returns-then-at-k
returns-then-at-k c =
    elim c.then-at-k.branch [
      | then-at-k-via-then-at-k w ↦ word_ends_early _ _ _ _ c.loop-k.invariant.1 c.loop-k-test.true w.if-at-k.true
      | then-at-k-via-else-at-k+then-upper w ↦
          word_differs _ _ _ _ c.loop-k.invariant.1 c.loop-k-test.true (omega (arith, c.loop-k.invariant.0, w.if-at-k.false)) _ _ w.upper.ensures w.upper-else-at-k.ensures w.if-upper.true
    ]

pub loop-k-preserved : goal.loop-k-preserved
loop-k-preserved c =
    let within : c.args.at + c.loop-k.k < length c.args.line.now = omega (arith, c.loop-k.invariant.0, c.if-at-k.false) in
    (omega (arith, within), word_more _ _ _ _ c.loop-k.invariant.1 c.loop-k-test.true within _ _ c.upper.ensures c.upper-else-at-k.ensures c.if-upper.false)

pub returns : goal.returns
returns c =
    let e : length c.args.word.now ≡ c.loop-k.k = omega (arith, c.loop-k-test.false, c.loop-k.auto.k-end) in
    rw e (word_whole _ _ _ _ c.loop-k.invariant.1 c.loop-k-test.false c.loop-k.auto.k-end c.loop-k.invariant.0)
