-- `stream::serve` meets its contract. The loop: no more lines are numbered than reads have brought. Assumes nothing.
use Rattle.stream.proofs.Turning.{Serves}
use Rattle.stream.proofs.serve.Given as goal

abbrev pub invariant-loop-turns : goal.invariant-loop-turns
invariant-loop-turns g l =
    let k = l.kept in
    Serves l.initial.room l.room l.desk k.state.number k.state.refused k.state.held l._turns
