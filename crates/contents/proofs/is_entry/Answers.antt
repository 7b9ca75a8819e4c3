-- `contents::is_entry` meets its contract: of an accepted line its tables are in the areas, and both tests are over them. Assumes nothing.
-- where the line is accepted: the beginning, and what reading has answered
use Rattle.std.proofs.Common.{◌∙◌, arith}
use Rattle.contents.proofs.Taken.{Taken, read_taken, read_refused_lem, refused_unstated, stated_rest, stated_not}
use Rattle.contents.proofs.is_entry.Goals as goal

pub is_canonical-requires : goal.is_canonical-requires
is_canonical-requires c =
    let taken_at : Taken c.args.line.now c.read.new.bytes c.read.new.numbers = read_taken (omega arith) (omega arith) c.read.ensures c.in-Ok.is in
    let t = taken_at in (t.known, t.short)

pub is_allowed_by-requires : goal.is_allowed_by-requires
is_allowed_by-requires c =
    let taken_at : Taken c.args.line.now c.read.new.bytes c.read.new.numbers = read_taken (omega arith) (omega arith) c.read.ensures c.in-Ok.is in
    let t = taken_at in
    (t.known.bounds, t.known.few)

pub returns-then-is_canonical : goal.returns-then-is_canonical
returns-then-is_canonical c =
    let taken_at : Taken c.args.line.now c.read.new.bytes c.read.new.numbers = read_taken (omega arith) (omega arith) c.read.ensures c.in-Ok.is in
    stated_rest taken_at _ c.is_canonical.ensures c.if-is_canonical.true c.is_allowed_by.ensures

pub returns-in-Err : goal.returns-in-Err
returns-in-Err c = refused_unstated _ _ (read_refused_lem (omega arith) (omega arith) c.read.ensures c.in-Err.is)

pub returns-else-is_canonical : goal.returns-else-is_canonical
returns-else-is_canonical c =
    let taken_at : Taken c.args.line.now c.read.new.bytes c.read.new.numbers = read_taken (omega arith) (omega arith) c.read.ensures c.in-Ok.is in
    c.if-is_canonical.false ∙ stated_not taken_at _ c.is_canonical.ensures c.if-is_canonical.false
