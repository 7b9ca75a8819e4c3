use mathlib.Core.Path.{◌≡◌, refl}
use Prim.Native.Nat.{◌+◌}
use native.Mathlib.Omega.{arith}
use borrow.Author.Rules.{rules}
use lib.IntN.{pos}
use lib.ListN.{get_or, length-replicate, get_or-replicate}
use mir.Syntax.{w64}
use mir.Val.{to_z, of_z}
use Rattle.held.proofs.Joins.{tells_whole}
use Rattle.held.proofs.Places.{matched_start, matched_more, matched_end}
use Rattle.held.proofs.zero_numbers.Goals as goal

pub loop-i-init : goal.loop-i-init
loop-i-init c = matched_start _ _ _ _ (length-replicate c.args.n (pos 0)) c.requires

pub loop-i-preserved : goal.loop-i-preserved
loop-i-preserved c =
    let s = c.args in
    let i = c.loop-i.i in
    let x = get_or s.numbers.now (s.at + i) (pos 0) in
    let read : to_z w64 (of_z w64 x) ≡ x = search rules in
    matched_more c.loop-i.invariant (omega arith) (pos 0) (pos 0) (get_or-replicate s.n i (pos 0) (pos 0) (omega arith)) (tells_whole x (pos 0) read refl)

pub returns : goal.returns
returns c = matched_end c.loop-i.invariant (omega arith)
