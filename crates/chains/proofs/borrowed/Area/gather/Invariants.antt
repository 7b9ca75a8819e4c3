-- `chains::Area::gather` meets its contract. The loop: the k blocks gathered, and the chain from block b on, are the whole chain. Assumes nothing.
use Rattle.chains.proofs.Following.{Following}
use Rattle.chains.proofs.borrowed.Area.gather.Given as goal

abbrev pub invariant-loop-k : goal.invariant-loop-k
invariant-loop-k l = Following l.self.bytes.now l.self.blocks l.number l.first l.k-end l.room l.row l.kind l.b l.k
