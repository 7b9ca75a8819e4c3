-- `positions::find_floaters` meets its contract. The loop's invariant: the floaters of the brackets before k are found.
use Rattle.positions.proofs.Found.{Finding}
use Rattle.positions.proofs.find_floaters.Given as goal

abbrev pub invariant-loop-k : goal.invariant-loop-k
invariant-loop-k l = Finding l.bytes l.numbers l.b l.k l.f.count l.f.index l.f.copy
