-- No byte ends with no name; else the names with the last letter are tried. Assumes nothing.
use Rattle.std.proofs.Common.{arith}
use Rattle.glycans.proofs.Names.{no_text, trying_start, trying_found, trying_next, trying_ends}
use Rattle.glycans.proofs.last_name.Goals as goal

pub returns-in_default : goal.returns-in_default
returns-in_default c = no_text _ c.in_default.len_below

pub loop-i-init : goal.loop-i-init
loop-i-init c = trying_start c.args.text.now (omega arith) c.upper.ensures c.ending_in-names.ensures

pub returns-then-ends : goal.returns-then-ends
returns-then-ends c = trying_found c.args.text.now c.ending_in-names.result.now c.loop-i.invariant c.loop-i-test.true (rw c.sugar_at.ensures.0 at c.ends.ensures) c.if-ends.true

pub loop-i-preserved : goal.loop-i-preserved
loop-i-preserved c = trying_next c.args.text.now c.ending_in-names.result.now c.loop-i.invariant c.loop-i-test.true (rw c.sugar_at.ensures.0 at c.ends.ensures) c.if-ends.false

pub returns : goal.returns
returns c = trying_ends c.args.text.now c.ending_in-names.result.now c.loop-i.invariant c.loop-i-test.false
