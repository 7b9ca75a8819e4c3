-- The invariant: the first k brackets do not fall, and q is the rank of the last of them. Assumes nothing.
use Rattle.scope.specs.Layout.{brackets_field}
use Rattle.writer.proofs.RankLaws.{Risen}
use Rattle.writer.proofs.in_order.Given as goal

abbrev pub invariant-loop-k : goal.invariant-loop-k
invariant-loop-k l = Risen l.bytes (brackets_field l.bytes) l.k l.q
