-- The loop over the word's bytes: as many as are read have led to what is owed behind them.
use Prim.Native.Nat.{◌+◌, ◌≤◌}
use lib.ListN.{length}
use Rattle.sites.proofs.Lists.{WordOn}
use Rattle.sites.proofs.word_at.Given as goal

abbrev pub invariant-loop-k : goal.invariant-loop-k
invariant-loop-k l = (l.at + l.k ≤ length l.line) × WordOn l.line l.at l.word l.k
