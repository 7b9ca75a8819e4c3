-- `exchange::placed` meets its contract: if one below i stands at y, i cannot take it; if nobody does, i takes it; if another does, i takes it and that one is
-- placed by `augment`, those up to i unmoved.
use mathlib.Core.Path.{◌≡◌}
use Prim.Native.Nat.{◌<◌}
use native.Mathlib.Omega.{arith}
use lib.ListN.{length}
use Rattle.exchange.proofs.Laws.{attempt_used, attempt_free, attempt_augmented}
use borrow.Author.Rules.{rules}
use Rattle.scope.specs.Limits.{copy_limit}
use Rattle.exchange.proofs.Search.placed.Goals as goal

pub returns-in-None : goal.returns-in-None
returns-in-None c =
    let long : c.args.i < length c.args.p.now.at = let e : length c.args.p.now.at ≡ copy_limit = search rules in omega (arith, c.requires.0.inside, c.requires.0.sized.few, e) in
    attempt_free _ _ _ _ _ _ c.requires.0 c.requires.1 long c.in-None.ensures

pub returns-then-t-i : goal.returns-then-t-i
returns-then-t-i c = attempt_used _ _ _ _ _ _ c.requires.0 c.requires.1 _ c.in-Some.ensures c.if-t-i.true

pub returns-else-t-i : goal.returns-else-t-i
returns-else-t-i c =
    let long : c.args.i < length c.args.p.now.at = let e : length c.args.p.now.at ≡ copy_limit = search rules in omega (arith, c.requires.0.inside, c.requires.0.sized.few, e) in
    attempt_augmented _ _ _ _ _ _ c.requires.0 c.requires.1 long c.augment.result c.augment.ensures
