-- What was written before, and then what this write took.
use Rattle.std.proofs.Common.{◌≡◌, ◌-◌, ◌≤◌, length, take, drop, take_all, length-drop, arith}
use Rattle.std.proofs.Math.Seq.{take-add}
use Rattle.std.proofs.KnownBytes.{Appends-trans}
use Rattle.stream.proofs.send.Goals as goal

pub loop-done-preserved : goal.loop-done-preserved
loop-done-preserved g c =
    let before = c.loop-done.invariant in
    let some = c.send_some-got.ensures in
    let rest = drop c.loop-done.done c.args.text.now in
    let long = length-drop c.loop-done.done c.args.text.now in
    let all : take (length c.args.text.now - c.loop-done.done) rest ≡ rest = take_all _ rest (omega (arith, long)) in
    let few : c.send_some-got.result ≤ length rest = rw all at some.within in
    record {
      within = omega (arith, few, long, before.within);
      written = rw take-add (Appends-trans _ _ _ _ _ before.written (rw all at some.written));
    }
