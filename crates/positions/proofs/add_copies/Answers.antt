use native.Mathlib.Omega.{arith}
use mathlib.Core.Path.{◌≡◌}
use lib.ListN.{length}
use Rattle.scope.specs.Limits.{copy_limit}
use Rattle.positions.proofs.Found.{copying_start, copying_next}
use borrow.Author.Rules.{rules}
use Rattle.positions.proofs.add_copies.Goals as goal

pub loop-j-init : goal.loop-j-init
loop-j-init c =
    let b : length c.args.f.index ≡ copy_limit = search rules in
    let e : length c.args.f.copy ≡ copy_limit = search rules in
    copying_start _ _ _ _ _ b e

pub loop-j-preserved : goal.loop-j-preserved
loop-j-preserved c = copying_next c.loop-j.invariant c.requires (omega arith)
