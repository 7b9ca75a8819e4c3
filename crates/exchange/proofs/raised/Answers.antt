use mathlib.Core.Path.{◌≡◌, sym, ◌∙◌}
use Prim.Native.Nat.{◌<◌, ◌+◌}
use native.Mathlib.Omega.{arith}
use lib.ListN.{length, set, length-set}
use borrow.Author.Rules.{rules}
use Rattle.scope.specs.Limits.{copy_limit}
use Rattle.exchange.specs.Table.{mark_in, RaisedTo}
use Rattle.exchange.proofs.Runs.{raised_start, raised_more}
use Rattle.exchange.proofs.raised.Goals as goal

pub returns-then-not-is_further : goal.returns-then-not-is_further
returns-then-not-is_further c =
    let below : c.args.i < copy_limit = omega (arith, c.requires.0, c.requires.1) in
    let long : length c.args.old ≡ copy_limit = search rules in
    let begun : RaisedTo (mark_in c.args.copy) c.args.k c.args.i c.args.low (c.args.i + 1) c.args.old (set c.args.old c.args.i c.args.low) = raised_start _ _ c.args.i c.args.low c.args.old c.requires.0 (omega (arith, below, long)) in
    let l = c.loop-s in
    let f = c.is_further in
    record { end = l.s; to = l.invariant.1 c.args.old begun; ends = λ m. sym f.ensures ∙ c.if-not-is_further.true }

pub loop-s-preserved : goal.loop-s-preserved
loop-s-preserved c =
    let l = c.loop-s in
    let f = c.is_further in
    let m : l.s < length l.lows = omega (arith, c.requires.1, l.invariant.0) in (
      simp length-set l.invariant.0,
      λ old r. raised_more _ _ _ _ _ _ _ (omega arith) m (sym f.ensures ∙ c.if-not-is_further.false) (l.invariant.1 old r),
    )

pub returns : goal.returns
returns c =
    let below : c.args.i < copy_limit = omega (arith, c.requires.0, c.requires.1) in
    let long : length c.args.old ≡ copy_limit = search rules in
    let begun : RaisedTo (mark_in c.args.copy) c.args.k c.args.i c.args.low (c.args.i + 1) c.args.old (set c.args.old c.args.i c.args.low) = raised_start _ _ c.args.i c.args.low c.args.old c.requires.0 (omega (arith, below, long)) in
    let l = c.loop-s in
    record { end = l.s; to = l.invariant.1 c.args.old begun; ends = λ m. absurd (omega (arith, m)) }
