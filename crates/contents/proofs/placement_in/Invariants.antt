-- `contents::placement_in` meets its contract. The loop: i bytes are copied, each as a position. Assumes nothing.
use Rattle.std.proofs.Common.{◌≡◌, ◌++◌, take, drop}
use Rattle.contents.proofs.placement_in.Given as goal

abbrev pub invariant-loop-i : goal.invariant-loop-i
invariant-loop-i l = l.at ≡ take l.i l.b-items ++ drop l.i l.initial.at
