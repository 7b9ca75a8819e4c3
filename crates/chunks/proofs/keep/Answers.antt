-- `chunks::keep` meets its contract: bytes of the chunk are copied behind those held. Assumes nothing.
use Rattle.std.proofs.Common.{sym, ◌∙◌, ◌-◌, [], drop, length-take, length-drop, append-nil, arith, rules}
use Rattle.chunks.proofs.Cutting.{keeps}
use Rattle.chunks.proofs.keep.Goals as goal

pub returns : goal.returns
returns c =
    let p = c.requires in
    let chunk = c.args.chunk.now in
    let few = length-take (c.args.end - c.args.from) (drop c.args.from chunk) in
    keeps chunk c.args.from c.args.end c.args.hold.now c.args.held _ _ [] _ p.1 p.2 p.3 (omega (arith, c.min-n.ensures, few, length-drop c.args.from chunk, p.0))
    (c.copy_from_slice.ensures.after ∙ sym (append-nil _)) (search rules)
