-- `contents::content_of` meets its contract: an allowed placement is eight bytes, and the canonical line is put behind them. Assumes nothing.
-- "A placement has 8 entries"
use mathlib.Core.Path.{◌≡◌, sym, ◌∙◌}
use native.Mathlib.Omega.{arith}
use lib.ListN.{length}
use Rattle.scope.specs.Limits.{copy_limit}
use Rattle.basics.specs.Tabled.{residues_many}
use Rattle.contents.proofs.Bytes.{allowed_bytes}
use Rattle.contents.proofs.Front.{front_whole}
use Rattle.contents.proofs.Taken.{tables_made, tables_18}
use borrow.Author.Rules.{rules}
use Rattle.contents.proofs.content_of.Goals as goal

pub put_placement-requires : goal.put_placement-requires
put_placement-requires c =
    let few = c.requires.0.bounds.few_residues in
    (omega arith, allowed_bytes _ _ (rw residues_many few) (sym c.is_allowed_by.ensures ∙ c.if-not-is_allowed_by.false))

pub returns : goal.returns
returns c =
    let entries : length c.args.p.at ≡ copy_limit = search rules in
    let ends = c.put_line.ensures.ends in
    tables_made _ _ _ c.is_allowed_by.ensures c.if-not-is_allowed_by.false
    (front_whole c.args.p.at c.args.room.now c.put_placement.ensures entries c.put_line.ensures (omega arith)) (omega arith) (omega arith)

pub returns-then-not-is_allowed_by : goal.returns-then-not-is_allowed_by
returns-then-not-is_allowed_by c = tables_18 _ _ c.is_allowed_by.ensures c.if-not-is_allowed_by.true
