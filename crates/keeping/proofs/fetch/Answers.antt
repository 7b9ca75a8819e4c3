-- `keeping::fetch` meets its contract: 26, then 25, 22 or the entry handed out, by what is found. Assumes nothing.
use Rattle.std.proofs.Common.{refl, ◌∙◌}
use Rattle.keeping.proofs.Calls.{handed_on, refused_so}
use Rattle.keeping.proofs.Looks.{found_in, missing_in}
use Rattle.keeping.proofs.Outputs.{handed_as, handed_not, fetch_26, fetch_missing, fetch_entry}
use Rattle.keeping.proofs.fetch.Goals as goal

pub returns-in_err-whole : goal.returns-in_err-whole
returns-in_err-whole c =
    let w = rw c.in_err-whole.was at c.whole.ensures in
    handed_not 26 0 (fetch_26 _ _ _ w.0) (handed_on c.from_residual.result _ c.from_residual.ensures.1 ∙ refused_so _ w.1)

pub returns-in_err-chain : goal.returns-in_err-chain
returns-in_err-chain c =
    let w = rw c.in_ok-whole.was at c.whole.ensures in
    let m = missing_in c.args.number _ w.1 (rw c.in_err-chain.was at c.find.ensures) in
    handed_not _ _ (fetch_missing _ _ _ w.0 _ m) (handed_on c.from_residual-in_err-chain.result _ c.from_residual-in_err-chain.ensures.1)

pub returns : goal.returns
returns c =
    let w = rw c.in_ok-whole.was at c.whole.ensures in
    let f = found_in c.args.number w.1 (rw c.in_ok-chain.was at c.find.ensures) in
    handed_as (fetch_entry _ _ _ w.0 f refl) c.hand_out.ensures
