-- A code that is due has the rank of one of the refusals, and the reasons in the table have the numbers of the definition's list, whatever the line.
use mathlib.Core.List.{List, [], ◌∷◌}
use mathlib.Core.Path.{sym}
use Prim.Native.Nat.{◌/◌}
use native.Mathlib.Omega.{arith}
use Rattle.std.proofs.lemmas.List.{get_or-map}
use Rattle.scope.specs.declared.refusals.Reason.{Reason}
use Rattle.scope.specs.declared.refusals.Reason.TheVariants.{EmptyLine, Deep, TooMany, OutOfRange, NotTaken, DigitsOnly, OnlyInfo, InfoDeclared, Labels, Copies, Uncut}
use Rattle.scope.specs.Answers.{reason_number}
use Rattle.dues.proofs.reason_of.Goals as goal

pub bounds-c-c : goal.bounds-c-c
bounds-c-c c = let due = c.requires (record { residues = []; brackets = [] }) in omega arith

abbrev reasons : List Reason
reasons = Deep ∷ TooMany ∷ OutOfRange ∷ NotTaken ∷ DigitsOnly ∷ OnlyInfo ∷ InfoDeclared ∷ Labels ∷ Copies ∷ Uncut ∷ []

pub returns : goal.returns
returns c = λ l. let due = c.requires l in sym (get_or-map reason_number reasons (c.args.c / 65536) EmptyLine 0 (omega arith))
