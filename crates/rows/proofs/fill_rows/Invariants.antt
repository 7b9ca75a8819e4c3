-- `rows::fill_rows` meets its contract: the rows of the places before `at` that hold 1 are laid over what the slice begins with.
use Rattle.rows.proofs.Ones.{Filling}
use Rattle.rows.proofs.fill_rows.Given as goal

abbrev pub invariant-loop-at : goal.invariant-loop-at
invariant-loop-at l = Filling l.tab l.at l.i l.initial.out l.out
