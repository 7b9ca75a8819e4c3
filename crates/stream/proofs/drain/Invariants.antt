-- `stream::drain` meets its contract. The loop: the chunk is taken in up to `from`, and what is put out for that was taken. Assumes nothing.
use Prim.Native.Nat.{◌-◌}
use mathlib.Core.Path.{◌≡◌}
use Rattle.std.specs.Prelude.{None}
use lib.ListN.{length}
use Rattle.stream.proofs.Handing.{ChunkTaken}
use Rattle.stream.proofs.drain.Given as goal

abbrev pub invariant-loop-from : goal.invariant-loop-from
invariant-loop-from g l =
    let k = l.kept in
    ChunkTaken l.chunk l.fn.state.number l.fn.state.refused l.initial.desk.hold l.fn.state.held l.from k.state.number k.state.refused k.state.held k.sent l.desk × (k.end ≡ None)

abbrev pub decreases-loop-from : goal.decreases-loop-from
decreases-loop-from g l = length l.chunk - l.from
