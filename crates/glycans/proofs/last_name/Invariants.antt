-- The names with the last letter are tried one after another. Assumes nothing.
use Rattle.glycans.proofs.Names.{Trying}
use Rattle.glycans.proofs.last_name.Given as goal

abbrev pub invariant-loop-i : goal.invariant-loop-i
invariant-loop-i l = Trying l.text l.names l.i-index
