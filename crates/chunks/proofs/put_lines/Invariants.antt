-- `chunks::put_lines` meets its contract. The loop: the lines up to `next` are put, and those refused are counted. Assumes nothing.
use Prim.Native.Nat.{◌-◌}
use mathlib.Core.Path.{◌≡◌}
use lib.ListN.{length}
use Rattle.chunks.proofs.Putting.{Goes}
use Rattle.chunks.proofs.put_lines.Given as goal

abbrev pub invariant-loop-fed : goal.invariant-loop-fed
invariant-loop-fed l = Goes l.chunk l.from l.fn.state.number l.fn.state.refused l.initial.desk.out l.at l.fed.next l.fed.state.number l.fed.state.refused l.fed.put l.desk.bytes l.desk.numbers l.desk.out × (l.fed.state.held ≡ 0) × (l.desk.hold ≡ l.initial.desk.hold)

abbrev pub decreases-loop-fed : goal.decreases-loop-fed
decreases-loop-fed l = length l.chunk - l.fed.next
