-- `contents::make_content` meets its contract: the line's own refusal, or what is made of its tables. Assumes nothing.
use Rattle.std.proofs.Common.{arith}
use Rattle.contents.proofs.Taken.{Taken, read_taken, read_refused_lem, content_says, canonical_short, refused_content}
use Rattle.contents.proofs.make_content.Goals as goal

pub content_of-requires : goal.content_of-requires
content_of-requires c =
    let t : Taken c.args.line.now c.read.new.bytes c.read.new.numbers = read_taken (omega arith) (omega arith) c.read.ensures c.in_ok-read.was in
    (t.known, canonical_short t, c.requires)

pub returns-in_err-read : goal.returns-in_err-read
returns-in_err-read c =
    refused_content _ _ _ _ c.from_residual.result (read_refused_lem (omega arith) (omega arith) c.read.ensures c.in_err-read.was) c.from_residual.ensures.1

pub returns : goal.returns
returns c =
    let t : Taken c.args.line.now c.read.new.bytes c.read.new.numbers = read_taken (omega arith) (omega arith) c.read.ensures c.in_ok-read.was in
    content_says t c.args.p.at c.content_of.result c.content_of.new.room c.content_of.ensures
