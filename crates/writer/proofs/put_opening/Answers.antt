-- What opens a group, by the code of its section. Assumes nothing.
use borrow.Author.Rules.{rules}
use native.Mathlib.Omega.{arith}
use Rattle.scope.specs.declared.grammar.Section.TheVariants.{RangeFirst, UnsureFirst}
use Rattle.scope.specs.Layout.{section_code}
use Rattle.figures.proofs.Storing.{puts_none, puts_of, puts_within}
use Rattle.writer.proofs.LineLaws.{opening_of_lem, opening_other}
use Rattle.writer.proofs.put_opening.Goals as goal

pub returns-in-1 : goal.returns-in-1
returns-in-1 c = puts_of (opening_of_lem _ (section_code RangeFirst) c.in-1.is) (puts_within (omega arith) c.put.ensures)

pub returns-in-3 : goal.returns-in-3
returns-in-3 c = puts_of (opening_of_lem _ (section_code UnsureFirst) c.in-3.is) c.word.ensures

pub returns-in_default : goal.returns-in_default
returns-in_default c = puts_of (opening_other _ (search rules) (search rules)) (puts_within (omega arith) (puts_none _ _))
