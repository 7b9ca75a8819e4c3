-- `keeping::remove` meets its contract: 26, then 25, 22 or the entry's blocks are freed, by what is found. Assumes nothing.
use Rattle.std.proofs.Common.{refl, ap, ◌∙◌}
use Rattle.scope.specs.Answers.{good, refuses}
use Rattle.blocks.specs.Area.{replaced}
use Rattle.blocks.specs.Answers.{freed}
use Rattle.blocks.specs.Entry.{present}
use Rattle.keeping.proofs.Calls.{handed_on, refused_so, removing_26, removing_by, removing_missing, removed_so}
use Rattle.keeping.proofs.Looks.{found_in, missing_in}
use Rattle.keeping.proofs.remove.Goals as goal

pub returns-in_err-whole : goal.returns-in_err-whole
returns-in_err-whole c =
    let w = rw c.in_err-whole.was at c.whole.ensures in
    removed_so (refuses 26 0) (removing_26 _ _ w.0) (handed_on c.from_residual.result _ c.from_residual.ensures.1 ∙ refused_so _ w.1) refl

pub returns-in_err-chain : goal.returns-in_err-chain
returns-in_err-chain c =
    let w = rw c.in_ok-whole.was at c.whole.ensures in
    let m = missing_in c.args.number _ w.1 (rw c.in_err-chain.was at c.find.ensures) in
    removed_so (refuses _ _) (removing_missing _ _ w.0 _ m) (handed_on c.from_residual-in_err-chain.result _ c.from_residual-in_err-chain.ensures.1) refl

pub returns : goal.returns
returns c =
    let w = rw c.in_ok-whole.was at c.whole.ensures in
    let f = found_in c.args.number w.1 (rw c.in_ok-chain.was at c.find.ensures) in
    removed_so (good _) (removing_by _ _ w.0 (present _ _) f.is) refl (c.free_chain.ensures ∙ ap (λ bs. replaced (freed bs) c.args.area.now) c.in_order.ensures)
