-- The loop over digits, with their value so far: the laws of SoFar, one for each place of its code.
use Rattle.std.proofs.Common.{◌+◌}
use Rattle.numerals.proofs.DigitLaws.{SoFar}
use Rattle.numerals.proofs.digit_run.Given as goal

abbrev pub invariant-loop-n : goal.invariant-loop-n
invariant-loop-n l = SoFar l.line l.at l.v l.value (l.at + l.n)
