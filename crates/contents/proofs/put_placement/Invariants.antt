-- `contents::put_placement` meets its contract. The loop: i positions are copied, each as a byte. Assumes nothing.
use Rattle.std.proofs.Common.{◌≡◌, ◌++◌, take, drop}
use Rattle.contents.proofs.put_placement.Given as goal

abbrev pub invariant-loop-i : goal.invariant-loop-i
invariant-loop-i l = l.room ≡ take l.i l.x-items ++ drop l.i l.initial.room
