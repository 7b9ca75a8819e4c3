-- The row of a bracket, from what was read of it.
use Rattle.walk.proofs.Heads.{head_says}
use native.Mathlib.Omega.{arith}
use Rattle.walk.proofs.head_of.Goals as goal

pub returns : goal.returns
returns c =
    head_says c.args.s c.args.kind c.args.p c.requires.0 c.requires.1 c.requires.2 _ _ _ _ _ c.kind_code.ensures c.sort_of.ensures.0 c.sort_of.ensures.1 c.position.ensures c.position-2.ensures c.score_code.ensures (omega (arith, c.requires.3, c.score_code.ensures))
