-- `reader::wipe` meets its contract: each table in turn becomes zeros. Assumes nothing.
use native.Mathlib.Omega.{arith}
use borrow.Author.Rules.{rules}
use Rattle.reader.proofs.Wiping.{line_short, all_wiped}
use Rattle.reader.proofs.wipe.Goals as goal

pub zero_from-requires-4 : goal.zero_from-requires-4
zero_from-requires-4 c =
    let short = line_short c.requires in
    omega arith

pub returns : goal.returns
returns c =
    all_wiped c.requires c.residues-residues.ensures.0 c.brackets-brackets.ensures.0 c.zero_from.ensures c.zero_from-2.ensures c.zero_from-3.ensures c.zero_from-4.ensures
    (search rules)
